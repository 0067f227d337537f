-- Which rule a table breaks, and the line that tells it.
pub mod Faults
pub mod Words
