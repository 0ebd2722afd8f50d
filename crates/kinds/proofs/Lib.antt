pub mod Numerals
pub mod Orders
pub mod Ranges
pub mod Tables
