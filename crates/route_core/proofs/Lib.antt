pub mod Filtered
pub mod Routing
