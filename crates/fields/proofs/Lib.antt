-- Laws of layouts of a fixed size, of what stands behind a reading of any, and of a prefix in its bytes.
pub mod Flat
pub mod Many
pub mod Behind
pub mod Prefix
