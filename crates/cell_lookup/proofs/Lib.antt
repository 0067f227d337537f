-- Laws that the proofs of this crate, and of those that sort cells, cite.
pub mod Places
pub mod Ranks
pub mod Blocks
pub mod Fronts
pub mod Lookups
