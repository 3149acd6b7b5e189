pub mod Deciding
pub mod Histories
pub mod Holding
pub mod Ledgers
pub mod PinsOut
pub mod Planning
pub mod RowsKept
pub mod Turns
