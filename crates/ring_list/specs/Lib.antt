-- What the contracts of this crate cite beside `scope` and `ring_records`.
pub mod Listing
