-- Laws that the proofs of this crate cite.
pub mod Determined
pub mod Digits
pub mod Numbers
