-- Laws of what lookup and history checks share.
pub mod Keyed
pub mod Fronts
pub mod Formed
