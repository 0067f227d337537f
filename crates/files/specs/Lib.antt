-- How many bytes of a file came, and the reason behind the number of an error.
pub mod Files
