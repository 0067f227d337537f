-- What lent values hold, in the words of `scope`.
pub mod Lent
pub mod Arrays
