-- A law that the proofs of this crate cite.
pub mod Numbers
