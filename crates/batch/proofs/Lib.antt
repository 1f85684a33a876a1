-- Laws of batches.
pub mod Places
pub mod Form
pub mod Counted
