pub mod Door
pub mod Cases
