pub mod Stepped
pub mod Turned
pub mod Begun
pub mod Tabled
pub mod Meant
pub mod InBytes
