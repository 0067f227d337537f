-- What a column of values is.
pub mod Columns
