-- What the promises say beside document 01's definitions: the directory's own answers at the end of a chain of calls.
pub mod Kept
