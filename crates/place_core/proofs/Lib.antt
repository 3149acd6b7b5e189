pub mod Standing
pub mod Orders
pub mod Holding
pub mod Listed
pub mod Keeping
pub mod Counting
pub mod Cuts
