-- What the functions of this crate promise.
pub mod Listing
pub mod Polygons
pub mod Outers
pub mod Ordered
