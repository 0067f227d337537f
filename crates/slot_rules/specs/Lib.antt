-- What the contracts of this crate cite beside the definitions of scope.
pub mod Slices
