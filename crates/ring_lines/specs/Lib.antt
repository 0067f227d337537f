-- The rings of a zone, as lines.
pub mod Rings
