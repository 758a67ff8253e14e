pub mod Apply
pub mod Told
