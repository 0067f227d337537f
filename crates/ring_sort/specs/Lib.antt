-- What the functions of this crate promise.
pub mod Keys
pub mod Fill
pub mod Parts
pub mod Sorted
