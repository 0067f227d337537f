-- For the reader: what is said is one line, and complaints by example.
pub mod OneLine
pub mod Examples
