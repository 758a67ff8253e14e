pub mod Where
pub mod First
pub mod Answered
pub mod Cases
