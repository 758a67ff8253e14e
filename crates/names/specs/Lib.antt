pub mod Check
pub mod Texts
