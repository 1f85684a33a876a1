-- What the definitions of FIPS 180-4 come to.
pub mod Examples
pub mod Fast
pub mod Size
