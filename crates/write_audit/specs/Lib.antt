-- What the contracts of writing audit proofs cite.
pub mod Rest
