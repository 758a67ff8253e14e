pub mod InBytes
pub mod Carried
pub mod Seven
