-- Laws of the tree level.
pub mod Tests
pub mod Row
pub mod Over
