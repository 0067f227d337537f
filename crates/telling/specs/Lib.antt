-- What is told of a reading.
pub mod Summary
