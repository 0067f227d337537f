-- Laws that the proofs of this crate cite.
pub mod Totals
pub mod Counted
pub mod Ahead
pub mod Lent
pub mod Whole
