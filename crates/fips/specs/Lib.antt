-- FIPS 180-4, the Secure Hash Standard: what its text says of SHA-256.
pub mod Words
pub mod Sha256
