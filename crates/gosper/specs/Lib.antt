-- What the walk's state stands for, and what its functions promise.
pub mod Walking
