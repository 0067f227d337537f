-- What an audit of a feed counts, compares and says.
pub mod Feed
pub mod Same
pub mod Summary
