-- What the contracts and the theorems of this crate cite beside `scope`.
pub mod Checks
pub mod Straight
