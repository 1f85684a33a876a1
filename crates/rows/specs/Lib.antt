-- What the contracts of the rows say.
pub mod Rows
