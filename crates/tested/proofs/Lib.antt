-- Laws of the writers' first tests, and of what remains.
pub mod First
pub mod Order
pub mod Weighed
