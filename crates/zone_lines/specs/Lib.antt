-- A zone as lines for the tills.
pub mod Zones
pub mod Telling
