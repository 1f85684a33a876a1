-- What the contracts of writing what stands before the paths cite.
pub mod Front
