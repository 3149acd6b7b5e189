pub mod Words
pub mod Views
pub mod Tokens
pub mod PlaceRule
pub mod Steps
