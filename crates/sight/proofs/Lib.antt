pub mod Tables
pub mod Passing
