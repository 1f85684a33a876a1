-- What the contracts cite.
pub mod Text
