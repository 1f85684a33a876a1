-- What the contracts of the path check say, over document 01's reading of bytes.
pub mod Taken
