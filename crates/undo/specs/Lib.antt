pub mod Undoing
pub mod Lines
