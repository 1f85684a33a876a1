-- What the contracts of finding a name's records cite.
pub mod Own
