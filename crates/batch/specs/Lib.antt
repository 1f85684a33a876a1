-- What the contracts of reading a batch cite.
pub mod Places
