-- The cells of resolution 0.
pub mod BaseCells
