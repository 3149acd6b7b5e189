pub mod Flat
pub mod LineFronts
pub mod Numbers
