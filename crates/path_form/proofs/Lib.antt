-- Laws of a path's form.
pub mod Fields
pub mod Ending
pub mod Prefix
pub mod Steps
pub mod Reading
