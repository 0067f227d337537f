-- The laws behind the functions of this crate, over plain lists: the rows, the links, both together; the free slots counted.
pub mod Placing
pub mod Linking
pub mod PlacedSlots
pub mod FreeSlots
-- The promises allow one outcome.
pub mod Determined
