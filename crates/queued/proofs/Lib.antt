pub mod Held
pub mod Given
pub mod Done
pub mod Seven
