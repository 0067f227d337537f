-- What the levels of a walk promise, and its start.
pub mod Levels
pub mod Starts
