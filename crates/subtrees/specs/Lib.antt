-- What the contracts of an audit's list cite.
pub mod Listed
