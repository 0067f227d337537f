-- Laws that the proofs of this crate and of the calls share.
pub mod Fitting
pub mod Refusals
