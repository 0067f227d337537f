-- What a cell list is, as text.
pub mod Lines
