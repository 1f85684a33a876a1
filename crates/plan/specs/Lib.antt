-- What the contracts cite.
pub mod Asked
pub mod Kinds
