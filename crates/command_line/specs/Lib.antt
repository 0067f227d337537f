-- What the command lines of the tools mean.
pub mod Tools
pub mod Words
pub mod Lines
