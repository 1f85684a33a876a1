-- What the contract of growing a tree cites.
pub mod Grown
