-- Twins listed, and the order of a lone lookup.
mod Checked
mod Named
mod Ordered
pub mod Listing
pub mod NamedTwins
pub mod Whole
