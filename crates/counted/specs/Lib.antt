pub mod Count
pub mod Cases
