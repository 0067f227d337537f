-- What is said of a command line: its help, and what is wrong with it.
pub mod Complaints
pub mod Help
