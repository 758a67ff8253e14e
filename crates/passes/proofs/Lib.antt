pub mod Bounds
pub mod Gathered
pub mod Latest
pub mod Marks
pub mod Turns
