-- What a line of a cell list is, as text.
pub mod Words
