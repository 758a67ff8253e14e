pub mod Formats
pub mod Tree
pub mod Heads
pub mod Reading
pub mod Written
pub mod Cases
