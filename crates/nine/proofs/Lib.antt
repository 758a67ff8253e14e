pub mod Few
pub mod Together
pub mod Freed
pub mod Mild
pub mod Cancelled
pub mod Listed
pub mod Unclocked
pub mod Nine
