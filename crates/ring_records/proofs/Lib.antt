-- The laws of this crate's definitions, and the room of its records.
pub mod Filled
pub mod Room
