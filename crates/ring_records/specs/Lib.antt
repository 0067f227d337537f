-- What the contracts of this crate cite beside `scope`.
pub mod Records
