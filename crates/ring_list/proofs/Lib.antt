-- The laws of this crate's definitions, what its walks by hand share, and what its promises leave open: nothing (Determined).
pub mod Listings
pub mod Again
pub mod Loan
pub mod Determined
