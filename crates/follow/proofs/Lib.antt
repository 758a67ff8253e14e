pub mod Closed
pub mod Entries
pub mod Follows
pub mod Beside
