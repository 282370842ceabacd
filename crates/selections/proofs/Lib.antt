pub mod OnePair
pub mod Whole
pub mod Amounts
