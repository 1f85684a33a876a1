-- Laws of a walk over paths.
pub mod Walked
