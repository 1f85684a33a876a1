-- Proofs of the history check.
mod Checked
