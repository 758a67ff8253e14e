pub mod Names
pub mod Maps
pub mod Fields
pub mod Ports
pub mod Carriers
pub mod Refusals
