-- Ids compared byte by byte, records and their fields, and ids told apart by keys.
mod Alike
pub mod Found
pub mod Keyed
