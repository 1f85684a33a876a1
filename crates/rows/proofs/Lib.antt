-- Laws of the rows, for the crates above too.
pub mod Joined
