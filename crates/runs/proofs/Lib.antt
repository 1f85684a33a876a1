-- Laws of the runs of paths.
pub mod Going
pub mod Cursors
pub mod Powers
