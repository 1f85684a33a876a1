-- What the contract of the check cites.
pub mod Checked
