pub mod Outcome
pub mod Named
pub mod Projection
pub mod Cases
pub mod Reachable
