-- Laws that the proofs of the functions cite.
pub mod Listing
pub mod Outers
pub mod Ordering
pub mod Determined
