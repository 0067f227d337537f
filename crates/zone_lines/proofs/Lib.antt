-- Laws that the proofs of this crate cite, that its promise allows one outcome, and lines that compute.
pub mod Fits
pub mod Determined
pub mod Examples
