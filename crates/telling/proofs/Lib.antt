-- Laws that the proofs of this crate cite.
pub mod Summaries
pub mod Determined
