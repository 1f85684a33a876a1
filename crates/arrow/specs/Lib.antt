-- The arrow as the checks that a handset makes.
pub mod Pointed
