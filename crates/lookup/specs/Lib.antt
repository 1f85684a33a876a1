-- What the contract of the accepted key says beside document 01's definitions.
pub mod Part
