pub mod Bridge
pub mod Exchange
