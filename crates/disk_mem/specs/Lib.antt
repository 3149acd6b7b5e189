pub mod Contents
pub mod Device
pub mod Image
pub mod Plan
pub mod Replay
pub mod Sound
pub mod Syncs
