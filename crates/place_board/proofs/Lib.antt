pub mod Members
pub mod Numbers
pub mod Steps
pub mod Parting
pub mod Asking
pub mod Becoming
pub mod Chains
