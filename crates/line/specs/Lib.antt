-- The text in which the program's line is written.
pub mod Written
