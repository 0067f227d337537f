-- For the reader: the fault that is told is one that the table has, it is told in one line, and the promise leaves one outcome.
pub mod Rows
pub mod Broken
pub mod Telling
pub mod OneLine
pub mod Examples
