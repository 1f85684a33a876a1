-- Proofs of the lookup check.
mod Checked
