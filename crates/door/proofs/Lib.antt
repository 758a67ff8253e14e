pub mod Padded
pub mod Stored
pub mod Cases
