-- What crates above may use, beyond the contracts:
--     Others       what is told of the kinds that fit by what is seen from one of them
--     Twins        the kinds that fit as a resolution, by a search that ended at the second, and how many there are
pub mod Others
pub mod Twins
-- on the way there
mod Carried
mod Few
mod Room
mod Searched
mod Worded
