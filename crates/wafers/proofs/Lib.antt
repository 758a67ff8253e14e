pub mod Given
pub mod Projected
pub mod SoundTools
pub mod Named
pub mod Cases
pub mod Allowed
