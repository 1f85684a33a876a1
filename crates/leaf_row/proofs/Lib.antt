-- Laws of rows of leaves.
pub mod Rows
