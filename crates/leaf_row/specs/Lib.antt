-- Rows of leaves, as document 01's leaves.
pub mod Row
