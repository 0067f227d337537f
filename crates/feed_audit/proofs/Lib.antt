-- Laws that the proofs of this crate cite, and what an audit always says.
pub mod Held
pub mod Full
pub mod Whole
pub mod Always
