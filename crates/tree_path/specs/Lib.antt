-- What the contracts of a label's way cite.
pub mod Measured
