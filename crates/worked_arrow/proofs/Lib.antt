-- Demand 3 at work, and a first publishing: an example, by computation.
pub mod Digests
pub mod Promise
pub mod Publishing
