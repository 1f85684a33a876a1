-- The answers as C has them.
pub mod Results
