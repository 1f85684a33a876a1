-- Laws of label bits, of prefixes in bytes, of the first difference and of a marker's power.
pub mod Bits
pub mod Pack
pub mod Lcp
pub mod Powers
