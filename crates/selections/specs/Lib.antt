pub mod Readings
pub mod Selections
pub mod Amounts
