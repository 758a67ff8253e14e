pub mod Bytes
pub mod Tests
pub mod Settling
pub mod Passing
pub mod Here
