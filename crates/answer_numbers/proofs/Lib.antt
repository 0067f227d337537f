-- The promises allow one outcome each.
pub mod Determined
