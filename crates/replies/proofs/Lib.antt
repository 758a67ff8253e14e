pub mod Spelt
pub mod Lent
pub mod Worded
pub mod Cases
pub mod Short
pub mod ReadBack
