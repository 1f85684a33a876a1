-- What the contracts of written fields cite.
pub mod Written
