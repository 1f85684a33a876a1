-- Laws of rows of leaves.
pub mod Row
pub mod Leaves
pub mod One
