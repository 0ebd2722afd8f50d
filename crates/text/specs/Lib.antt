pub mod Bytes
pub mod Splitting
pub mod Left
