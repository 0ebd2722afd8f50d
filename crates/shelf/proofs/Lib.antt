pub mod Exported
pub mod Every
pub mod Barred
pub mod Keeping
