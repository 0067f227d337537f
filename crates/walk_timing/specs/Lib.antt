-- What the contract of the walk cites beside `scope`.
pub mod Mixed
