-- The laws that the proofs of this crate share, on plain numbers and lists.
pub mod Turns
