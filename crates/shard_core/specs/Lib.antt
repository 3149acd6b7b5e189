pub mod Reading
pub mod Shards
pub mod Viewing
