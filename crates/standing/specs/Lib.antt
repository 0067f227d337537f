-- What the calls on a standing state promise.
pub mod Promises
