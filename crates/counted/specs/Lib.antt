pub mod PairCalls
pub mod Counted
pub mod PlainSums
