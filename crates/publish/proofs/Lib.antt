-- Laws of publishing.
pub mod Tests
pub mod Weighing
