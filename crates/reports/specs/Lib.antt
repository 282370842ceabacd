pub mod Sums
pub mod Reports
pub mod Nine
pub mod OfRows
