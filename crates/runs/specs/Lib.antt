-- What the contracts of the runs say.
pub mod Runs
