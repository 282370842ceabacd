pub mod History
pub mod Sums
pub mod Follow
