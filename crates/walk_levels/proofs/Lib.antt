-- Laws that the proofs of this crate and of the walk cite, and what its promises leave open: nothing (Determined).
pub mod OneDigit
pub mod Remainders
pub mod LevelLaws
pub mod StartLaws
pub mod Determined
