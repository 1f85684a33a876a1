-- What the contracts of readings cite.
pub mod After
pub mod Head
