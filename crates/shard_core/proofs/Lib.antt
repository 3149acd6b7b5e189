pub mod Answering
pub mod Keeping
pub mod Lasts
pub mod Next
pub mod Parts
