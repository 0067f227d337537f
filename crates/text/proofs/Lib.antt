-- Laws of writing that the proofs here and above cite.
pub mod Writing
pub mod Numerals
pub mod Names
pub mod Lines
pub mod Examples
pub mod Determined
