-- What the contracts of the stored tree cite.
pub mod Stored
