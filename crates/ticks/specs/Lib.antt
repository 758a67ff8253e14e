pub mod Times
pub mod Wafers
pub mod Cases
