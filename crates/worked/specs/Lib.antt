pub mod Edges
pub mod FiveDays
pub mod Reports
pub mod Lists
