-- What the contracts of the shared parts say, over document 01's reading of bytes.
pub mod Form
pub mod Terms
