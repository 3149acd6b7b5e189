pub mod Cell
pub mod Document
pub mod Escapes
pub mod Faults
pub mod Limits
pub mod Reading
