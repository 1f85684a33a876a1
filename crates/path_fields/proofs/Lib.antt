-- Laws of fields that are written one behind the other.
pub mod Writing
