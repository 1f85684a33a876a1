-- What the contracts of the digests say beside the strings of document 01.
pub mod Join
