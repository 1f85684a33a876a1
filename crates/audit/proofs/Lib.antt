-- Laws of the audit's tests in parts.
pub mod Parts
