pub mod Texts
pub mod Actions
pub mod Shape
pub mod Request
pub mod InPlace
pub mod Cases
