pub mod Remains
pub mod Given
pub mod Lengths
pub mod Pass
pub mod Texts
