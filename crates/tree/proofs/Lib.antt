-- Laws of stored trees.
pub mod Leaves
pub mod Rising
pub mod Step
pub mod Halves
pub mod Slots
pub mod Flat
pub mod One
