-- Laws of the order of paths, for the crates above too.
pub mod Markers
pub mod Rows
pub mod Places
