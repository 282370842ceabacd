pub mod Words
pub mod Joined
pub mod Replays
pub mod Answered
pub mod Lengths
pub mod WorkedTexts
