-- What the contracts of the audit's layout cite.
pub mod Places
