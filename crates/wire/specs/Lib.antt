-- What the contracts cite.
pub mod Took
pub mod Calls
