-- What crates above may use, beyond the contracts:
--     Wholes       of exponents that are whole numbers: they can be declared
pub mod Wholes
-- on the way there
mod Quotients
mod Sums
