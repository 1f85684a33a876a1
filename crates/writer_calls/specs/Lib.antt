-- What the contracts cite.
pub mod Inside
