-- What the calls on bytes of this crate leave.
pub mod Changing
