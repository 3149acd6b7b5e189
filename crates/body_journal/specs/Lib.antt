pub mod Faults
pub mod Groups
pub mod Held
pub mod Journals
pub mod Marks
pub mod Rooms
pub mod Stores
