-- Laws that the proofs of this crate and of the calls share.
pub mod Walked
pub mod Rooms
pub mod Marking
pub mod Looking
pub mod Clearing
pub mod Taken
pub mod Sizes
pub mod InTurn
pub mod Determined
