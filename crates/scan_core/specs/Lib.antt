pub mod Needs
pub mod Parts
pub mod Scans
pub mod Values
