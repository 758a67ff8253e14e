pub mod Bridge
pub mod Notes
pub mod InPlace
