pub mod Refused
pub mod Fresh
pub mod Each
pub mod Differ
pub mod Answered
pub mod Seven
