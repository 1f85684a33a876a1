-- Laws of a name's records.
pub mod Versions
