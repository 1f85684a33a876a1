-- Laws of the layout of records, for the crates above too.
pub mod Formed
