-- What crates above may use, beyond the contracts:
--     Derives      what a derivation tells of the rules', and how code meets it: `derives`; its refusals return no dimensions
--     Resolves     what a resolution tells of the rules'
pub mod Derives
pub mod Resolves
-- on the way there
mod GradeOver
mod Either
mod Fittings
