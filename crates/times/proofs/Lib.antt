pub mod Laid
pub mod Written
pub mod Followed
pub mod Kept
pub mod Zero
pub mod Fitting
pub mod Tested
pub mod Only
