-- What crates above may use, beyond the contracts:
--     ExponentLaws     of sums, differences, products and opposites, and of what can be declared
--     DimensionLaws    of products, quotients and powers of dimensions, base by base
--     GradeLaws        of grades
--     BitLaws          of numbers and the bits that stand for them
--     Examples         worked examples at the ends of the range
pub mod ExponentLaws
pub mod DimensionLaws
pub mod GradeLaws
pub mod BitLaws
pub mod Examples
-- on the way there
mod Euclid
mod Integers
mod Signs
mod Parts
mod Lowest
mod Whole
mod Places
