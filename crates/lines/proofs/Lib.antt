pub mod Readers
pub mod Fields
pub mod Calls
pub mod Readings
pub mod Scanned
pub mod Files
pub mod WorkedTexts
