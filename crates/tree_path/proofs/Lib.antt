-- Laws of a label's way.
pub mod Labels
pub mod Ways
pub mod Ends
pub mod There
pub mod Root
