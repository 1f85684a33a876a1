-- What the layout reads at a place, for the crates above too.
pub mod At
pub mod Record
pub mod Form
pub mod Places
pub mod Chunks
