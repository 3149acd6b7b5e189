pub mod Exact
pub mod Filling
pub mod Firsts
pub mod Gathered
pub mod Parts
pub mod Placed
pub mod Lines
pub mod Ranking
