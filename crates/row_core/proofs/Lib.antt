pub mod Filters
pub mod Lists
pub mod Order
