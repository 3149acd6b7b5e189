pub mod WorkLines
pub mod WorkScan
mod LeftOut
