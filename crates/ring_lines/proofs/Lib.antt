-- Lines that compute.
pub mod Examples
