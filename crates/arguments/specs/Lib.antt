-- What is said of a command line, and what a tool may count on where it begins.
pub mod Beginning
