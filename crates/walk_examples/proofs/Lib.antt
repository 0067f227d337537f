-- What the loops over a walk keep.
pub mod Walked
