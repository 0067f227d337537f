-- What is printed of an audit.
pub mod Audits
