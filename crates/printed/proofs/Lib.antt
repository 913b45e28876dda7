-- Numbers in decimal, lines and their parts, the input's parts, and how much of it matters.
mod Digits
mod Added
pub mod Told
mod Parted
pub mod Compiled
pub mod Cut
