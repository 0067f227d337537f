-- For the reader: what is said of a file that cannot be taken is one line.
pub mod OneLine
