-- Laws that the proofs of this crate, and of the other rules, cite.
pub mod Sweeps
pub mod Ranges
