-- The steps of find and union as laws over plain lists, into which the functions' proofs put the code's facts; and that the promises allow one outcome.
pub mod Steps
pub mod Determined
