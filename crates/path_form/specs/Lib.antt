-- What the contracts of a path's form say, over document 01's reading of bytes.
pub mod Places
pub mod Parsed
