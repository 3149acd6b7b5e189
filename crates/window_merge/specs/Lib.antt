pub mod Choosing
pub mod Merging
pub mod Parting
pub mod Together
pub mod Values
