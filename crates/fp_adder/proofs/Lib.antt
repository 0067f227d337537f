-- Laws about the answers of this crate.
pub mod Determined
