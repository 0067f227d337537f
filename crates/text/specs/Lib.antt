-- Text as bytes.
pub mod Text
