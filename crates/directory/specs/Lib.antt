-- What is said of a directory beside document 01's definitions: its own answers, what a writer may read of it, how it comes about.
pub mod Own
pub mod Clash
pub mod Alike
pub mod Begun
