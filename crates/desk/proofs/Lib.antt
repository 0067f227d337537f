-- Laws of loads, outputs and reports, which the proofs of this crate and those of the tools cite.
pub mod Loading
pub mod Fits
pub mod Whole
pub mod Outputs
pub mod Pages
pub mod Sound
pub mod Determined
