-- What is printed of a list of cells, dissolved.
pub mod Zones
