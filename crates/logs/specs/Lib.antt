pub mod Layout
pub mod Written
pub mod Judging
pub mod InPlace
pub mod Cases
