pub mod Lists
pub mod Weighs
pub mod Sees
pub mod Rows
pub mod Counted
