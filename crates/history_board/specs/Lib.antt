pub mod Boards
pub mod Bearings
pub mod Pins
pub mod Views
pub mod Tokens
pub mod HistoryRule
pub mod Steps
