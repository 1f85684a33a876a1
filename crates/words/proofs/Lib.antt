-- Laws of numbers in bytes, for the crates above too.
pub mod Number
pub mod Halves
