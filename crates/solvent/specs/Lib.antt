-- What dissolve promises.
pub mod Promises
