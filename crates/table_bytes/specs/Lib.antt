-- What a table file is.
pub mod Files
