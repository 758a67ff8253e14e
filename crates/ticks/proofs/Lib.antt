pub mod Rounds
pub mod Compared
pub mod Timely
pub mod Sums
pub mod Slices
pub mod Enough
pub mod Cases
