-- The laws behind a pair that leaves: the flags of its slots, and the steps in a row.
pub mod Freeing
pub mod Pairs
-- The promise allows one outcome.
pub mod Determined
