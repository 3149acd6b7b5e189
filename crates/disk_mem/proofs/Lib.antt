pub mod Copies
pub mod Images
pub mod Redone
pub mod Replays
pub mod Writes
