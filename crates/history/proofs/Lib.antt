pub mod Words
pub mod Days
pub mod Pairs
pub mod Accepted
pub mod Ids
pub mod Agrees
pub mod Kept
pub mod Follow
