-- What arranging leaves tells, and what its steps leave.
pub mod Arranged
pub mod Sort
