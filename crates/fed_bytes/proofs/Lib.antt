pub mod Orders
pub mod Prefixes
