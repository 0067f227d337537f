-- What the functions of this crate ask and promise.
pub mod Links
pub mod Marking
pub mod Laying
pub mod Grouping
pub mod Views
pub mod Build
