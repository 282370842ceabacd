pub mod Sums
pub mod Reports
pub mod Lists
