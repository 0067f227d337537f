-- Laws that the proofs of this crate cite.
pub mod Digits
pub mod Prefix
pub mod Reading
