-- Laws of starting a directory.
pub mod Started
