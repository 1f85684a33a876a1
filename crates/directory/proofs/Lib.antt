-- Demand 2, the honest way, over the labelling and the definitions.
pub mod Standing
pub mod Writers
pub mod Clashes
pub mod Apart
pub mod PublishClashes
pub mod Lookups
pub mod Histories
pub mod Audits
pub mod Publishings
pub mod Unread
