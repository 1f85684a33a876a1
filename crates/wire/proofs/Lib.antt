-- Laws of what is read of a request.
pub mod Joined
