-- What the contracts of a walk over paths say, over document 01's reading of bytes.
pub mod Walk
