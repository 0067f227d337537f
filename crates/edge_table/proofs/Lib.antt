-- Laws that the proofs of this crate cite.
pub mod Gathered
pub mod Halves
pub mod Blocks
pub mod Sides
pub mod Columns
pub mod Outcomes
