-- Laws that the proofs of the functions cite.
pub mod Closing
-- The promises allow one outcome each.
pub mod Determined
