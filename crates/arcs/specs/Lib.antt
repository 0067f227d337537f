-- What the contracts of this crate say.
pub mod CancelRows
pub mod Taking
