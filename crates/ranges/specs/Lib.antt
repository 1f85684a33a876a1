-- What the contracts of functions that hand back a part of what they are lent cite.
pub mod Part
