pub mod Faults
pub mod Flat
pub mod Lines
pub mod Lists
pub mod Numbers
