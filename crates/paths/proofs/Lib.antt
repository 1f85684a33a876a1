-- Laws of a proof's paths.
pub mod Asked
