-- What the contracts of publishing cite.
pub mod Weighed
