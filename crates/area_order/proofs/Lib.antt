-- Laws that others cite.
pub mod Orders
pub mod Keys
