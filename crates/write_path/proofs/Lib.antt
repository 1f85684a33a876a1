-- Laws of a path's bytes as they are written.
pub mod Laid
