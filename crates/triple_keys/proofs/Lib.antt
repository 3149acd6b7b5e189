pub mod Ordering
pub mod Spelling
