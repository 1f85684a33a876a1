-- Laws of laying an audit proof.
pub mod Bytes
