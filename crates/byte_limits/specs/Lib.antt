-- The limits of the calls on bytes.
pub mod Arrays
pub mod Within
