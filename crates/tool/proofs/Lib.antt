pub mod Tested
pub mod Blank
pub mod Runs
pub mod Only
pub mod Refuses
pub mod Accepts
mod SetUp
