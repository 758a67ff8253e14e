pub mod Handed
pub mod Refuses
pub mod Exchanged
