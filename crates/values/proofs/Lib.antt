pub mod Floats
pub mod Signed
pub mod Sizes
pub mod Untouched
pub mod Cases
