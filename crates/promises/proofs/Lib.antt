-- Demand 2 as chains of calls, over the labelling and the definitions.
pub mod Chains
