pub mod Left
pub mod Lengths
pub mod Worked
