pub mod Told
pub mod Moved
pub mod Ten
