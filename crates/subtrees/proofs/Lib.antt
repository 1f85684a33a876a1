-- Laws of an audit's list, for the crates above too.
pub mod News
pub mod Records
