pub mod Disk
pub mod Files
pub mod Moments
