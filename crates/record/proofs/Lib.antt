-- Laws of records by their places, for the crates above too.
pub mod Places
pub mod Form
