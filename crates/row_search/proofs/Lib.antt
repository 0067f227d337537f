-- Laws that the proofs of this crate cite, how many turns the search takes, and what its promise leaves open: nothing (Determined).
pub mod Search
pub mod Noting
pub mod Turns
pub mod Determined
