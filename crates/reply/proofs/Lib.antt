-- Laws of text.
pub mod Spelt
