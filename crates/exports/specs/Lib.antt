pub mod Sheet
pub mod Part
pub mod Shown
