-- Laws that the proofs of this crate cite, and what its promises leave open: nothing (Determined).
pub mod Calling
pub mod Limits
pub mod Determined
