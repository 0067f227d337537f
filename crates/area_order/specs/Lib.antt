-- What the functions of this crate promise.
pub mod Keys
pub mod Sorted
