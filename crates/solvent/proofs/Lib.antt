-- Laws that the proof of dissolve uses, and what its promise allows.
pub mod Dissolves
pub mod Determined
