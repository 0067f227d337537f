-- Laws for the proofs of this crate, and what its promises leave open: nothing (Determined).
pub mod Walkings
pub mod Advances
pub mod Rests
pub mod BeginLaws
pub mod Determined
