-- Laws of the strings that the functions read and write, for the crates above too.
pub mod Slices
pub mod Compare
pub mod Row
pub mod Part
