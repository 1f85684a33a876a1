-- What the contracts of writing lookup and history proofs cite.
pub mod Judged
pub mod Rest
