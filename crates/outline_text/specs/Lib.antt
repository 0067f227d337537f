-- An outline as text.
pub mod Outlines
