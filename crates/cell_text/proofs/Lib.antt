-- Laws that the proofs of this crate cite.
pub mod LinesLeft
pub mod Come
pub mod Turn
pub mod Examples
pub mod Determined
