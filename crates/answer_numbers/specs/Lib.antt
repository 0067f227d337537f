-- The numbers of an answer.
pub mod Sums
