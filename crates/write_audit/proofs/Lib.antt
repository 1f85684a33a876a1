-- Laws of writing audit proofs.
pub mod Same
