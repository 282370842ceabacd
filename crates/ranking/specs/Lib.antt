pub mod Ranking
pub mod Runs
pub mod Meaning
pub mod Worked
pub mod Ranks
