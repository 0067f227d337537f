-- Laws that the proofs of this crate cite, and what an audit comes to.
pub mod Tally
pub mod Feeding
pub mod FromOpened
pub mod Replays
pub mod Equal
pub mod Determined
