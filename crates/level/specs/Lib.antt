-- What the contracts of the tree level cite.
pub mod Rooted
