-- What crates above may use, beyond the contracts:
--     Tells        what is known of words that are a table: `tells`
--     Own          a table's own rows are rows over it
pub mod Tells
pub mod Own
-- on the way there
mod Ands
mod Joint
mod Ors
mod Wholly
mod Marked
mod Tables
