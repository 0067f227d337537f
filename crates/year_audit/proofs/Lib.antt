-- Laws that the proofs of this crate cite.
pub mod Points
pub mod Reporting
