pub mod Table
pub mod Written
pub mod Bytes
pub mod Laid
pub mod Moved
pub mod Reported
pub mod Only
