-- Demand 3 from the Boolean that a handset computes.
pub mod Pointing
