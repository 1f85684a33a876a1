-- What the contracts of the writers' first tests cite.
pub mod Tested
