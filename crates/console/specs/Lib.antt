pub mod Problem
pub mod Texts
