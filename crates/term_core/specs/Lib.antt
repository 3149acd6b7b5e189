pub mod Characters
pub mod Decoding
pub mod Faults
pub mod Spelling
pub mod Term
