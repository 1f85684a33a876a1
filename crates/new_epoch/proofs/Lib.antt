-- Laws of new records and their bytes.
pub mod Made
pub mod Prepared
pub mod One
