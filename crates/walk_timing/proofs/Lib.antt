-- What the loop over the walk keeps.
pub mod Mixing
