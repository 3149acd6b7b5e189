pub mod BadFields
pub mod Bytes
pub mod Labels
pub mod Places
pub mod Spelling
pub mod Tags
