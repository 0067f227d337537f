-- What an audit of a feed is, from the opening to the outline dissolved afresh.
pub mod Audit
