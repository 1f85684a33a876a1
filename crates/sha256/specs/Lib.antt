-- What the contracts of the functions inside this crate say.
pub mod Ending
