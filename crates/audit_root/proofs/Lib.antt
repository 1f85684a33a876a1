-- Laws of the recursion over an audit's records.
pub mod Nodes
pub mod Single
pub mod Cutting
pub mod Step
