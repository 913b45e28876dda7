pub mod Flat
pub mod Standing
pub mod Records
