pub mod Table
pub mod Grammar
pub mod Reading
pub mod Written
pub mod Texts
pub mod Decimals
pub mod Worked
pub mod Parts
