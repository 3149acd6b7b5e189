pub mod Caller
pub mod Gathering
pub mod Held
pub mod Laws
pub mod Packed
pub mod Runs
pub mod Windows
