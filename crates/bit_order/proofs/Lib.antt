-- Laws of lists in bit order, of the trees over them, and of rows of leaves.
pub mod Order
pub mod Cut
pub mod Sides
pub mod Leaves
pub mod Told
