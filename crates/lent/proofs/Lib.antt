-- Lent values handed through several calls.
pub mod Same
pub mod Fronts
