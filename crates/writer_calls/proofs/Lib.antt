-- Laws of what is written.
pub mod Room
