pub mod Order
pub mod Counts
pub mod Insertion
pub mod Lists
pub mod FirstRanks
pub mod Sums
