-- What the contracts of the audit's roots cite.
pub mod Built
