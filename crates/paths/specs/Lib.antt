-- What the contracts of measuring and writing a proof's paths cite.
pub mod Paths
