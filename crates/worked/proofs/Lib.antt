-- Worked cases.
pub mod Cases
