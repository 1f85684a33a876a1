-- Laws of sorting leaves.
pub mod Counts
pub mod Parting
pub mod Order
pub mod Step
pub mod Distinct
pub mod One
