-- Laws of what stands before a proof's paths.
pub mod Items
pub mod Front
