-- What the contracts of what a batch adds cite.
pub mod Headed
pub mod Prepared
