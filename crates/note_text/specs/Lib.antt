-- A number between words, and an area.
pub mod Notes
