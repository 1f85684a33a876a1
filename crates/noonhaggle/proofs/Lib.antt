-- Laws of the answers as C has them.
pub mod Left
