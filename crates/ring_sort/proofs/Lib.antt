-- Laws that the proofs of the functions cite.
pub mod Fills
pub mod Parts
pub mod Sorts
pub mod Merging
pub mod Halves
pub mod Numbers
pub mod Sorting
pub mod Determined
