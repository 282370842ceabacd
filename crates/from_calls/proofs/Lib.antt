pub mod Runs
pub mod Plain
pub mod Reports
pub mod Lists
