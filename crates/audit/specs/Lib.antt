-- What the contracts of the audit checker cite.
pub mod Tests
