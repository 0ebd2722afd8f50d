pub mod Equals
pub mod Splits
