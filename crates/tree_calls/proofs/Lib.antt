-- A law of what is written.
pub mod Room
