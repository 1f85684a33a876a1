-- Laws of the line.
pub mod Digits
pub mod Texts
pub mod Inputs
