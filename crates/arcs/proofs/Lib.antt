-- The laws behind the functions of this crate, over plain lists, in the order of their use.
-- A pair leaves the links and the pool.
pub mod Round
pub mod Pair
-- The pairs of an outline, one after the other, against all pairs at once.
pub mod Counting
pub mod Gone
pub mod After
pub mod Cancelling
pub mod Skipping
pub mod Clearing
pub mod Pairing
pub mod Cancelled
pub mod RowsMet
-- One more cell.
pub mod Offering
pub mod PoolAlone
pub mod Adding
-- The promises allow one outcome.
pub mod Determined
