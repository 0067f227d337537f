-- What the callers of a load count on, what a tool lends for an outline, what is printed, and what is said of a table.
pub mod Loads
pub mod Taking
pub mod Outputs
pub mod Reports
pub mod Tables
