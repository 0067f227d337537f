-- For the reader: a refusal is one line.
pub mod OneLine
