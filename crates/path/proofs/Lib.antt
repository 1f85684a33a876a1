-- Laws of the path check.
pub mod Climb
pub mod Parting
pub mod Found
