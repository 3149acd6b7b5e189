pub mod Routes
pub mod Apart
