-- What the search promises: the rows below a bound, the notes, and how many turns it takes.
pub mod Search
pub mod Notes
pub mod Turns
