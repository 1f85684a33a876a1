-- Laws of tables, for the crates above too.
pub mod Last
pub mod Walk
pub mod Own
pub mod Rules
pub mod Read
pub mod Shapes
pub mod One
