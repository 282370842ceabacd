pub mod ByPairs
