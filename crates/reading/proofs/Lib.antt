-- Laws that the proofs of this crate and of the calls share.
pub mod Readings
pub mod Determined
