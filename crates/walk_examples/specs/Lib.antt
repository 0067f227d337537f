-- A digest to compare outlines by.
pub mod Digest
