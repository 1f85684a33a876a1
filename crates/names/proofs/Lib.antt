-- Laws of a name's bounds.
pub mod Named
