-- What the contracts of this crate say.
pub mod Place
pub mod Outline
