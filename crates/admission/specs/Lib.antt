-- What the contracts of this crate cite beside `scope`.
pub mod Lengths
pub mod Admits
