-- The laws behind the search: by eights, the digits of a word, and by flags.
pub mod Searching
pub mod Digits
pub mod Flagged
-- The promises allow one outcome.
pub mod Determined
