-- Laws that the proofs of this crate cite.
pub mod Ranking
pub mod Lowest
pub mod Raising
pub mod Joining
pub mod Stages
pub mod Chaining
