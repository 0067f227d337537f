-- Laws that the proofs of the calls share, and what the promises leave open: nothing (Determined).
pub mod Opening
pub mod Offers
pub mod ReadOuts
pub mod Determined
