-- What exports leave.
pub mod Left
