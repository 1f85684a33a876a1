-- What the contracts of reading records cite.
pub mod Places
