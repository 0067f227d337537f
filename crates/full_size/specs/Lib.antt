-- Dissolve in memory of full size.
pub mod Drawing
