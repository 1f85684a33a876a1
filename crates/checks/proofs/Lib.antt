-- Laws of the check, for the two crates above.
pub mod Standing
pub mod Lookup
pub mod History
pub mod Checked
pub mod Verdicts
