-- What the contracts of laying an audit proof cite.
pub mod Audited
