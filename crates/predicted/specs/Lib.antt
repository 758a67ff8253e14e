pub mod Bytes
pub mod Asked
