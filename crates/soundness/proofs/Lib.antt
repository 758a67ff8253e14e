pub mod Clauses
pub mod Judged
pub mod Seated
pub mod Unused
pub mod Verdict
