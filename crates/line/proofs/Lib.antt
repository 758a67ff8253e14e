pub mod Laid
pub mod Written
pub mod Named
pub mod Zero
pub mod Tested
pub mod Left
pub mod Changed
