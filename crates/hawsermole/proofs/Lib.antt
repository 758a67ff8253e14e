pub mod Stepped
pub mod Kept
pub mod Bytes
pub mod Undone
pub mod Pods
