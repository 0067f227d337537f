-- Laws that the proofs of this crate cite.
pub mod Outputs
pub mod Rooms
pub mod Determined
