mod Distinct
mod Keys
mod Taking
pub mod Scanned
