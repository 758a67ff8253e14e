pub mod Texts
pub mod Reply
pub mod Cases
