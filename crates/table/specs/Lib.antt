-- What the contracts of testing tables cite.
pub mod Index
pub mod Shape
