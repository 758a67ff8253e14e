pub mod Turns
pub mod Placed
pub mod Five
pub mod Attributes
pub mod Shaped
pub mod Answered
pub mod Cases
