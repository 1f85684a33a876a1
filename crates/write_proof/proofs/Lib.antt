-- Laws of writing lookup and history proofs.
pub mod Bytes
pub mod Same
