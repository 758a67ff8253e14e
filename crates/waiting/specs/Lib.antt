pub mod Waiting
pub mod Cases
