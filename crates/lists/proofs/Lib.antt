pub mod Bools
pub mod Loops
pub mod Parts
pub mod Tables
pub mod Tests
pub mod Positions
pub mod Library
pub mod Ranges
