-- Refusals in words.
pub mod Refusals
