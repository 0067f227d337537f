-- Laws about answers that the calls and their parts share.
pub mod InARow
pub mod Outcomes
