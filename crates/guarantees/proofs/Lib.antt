-- The proof of demand 3, from the bottom up. What crates above may use:
--     Shown            demand 3 over kinds and rows (`demand3`)
--     Images, Calls    of two images that compile (`images_demand3`), and of every pair of calls over the words they compile into (`demand3_calls`)
--     WellCompiled     what a compilation guarantees (`well_compiled`), and why 25 is said (Row25, `Fits-not`)
--     Causes, SiRule   what a refusal's number tells (`number_tells`), and the SI rule (`si_rule`)
--     ProductLaws, TwinLaws, TableLaws, InRange, Malformed, AtToken, Lent    laws for the code of lookups, formulas and the table
-- laws of the lower library that it does not state
mod Missing
-- walks, for any machine
pub mod Follows
pub mod Grows
pub mod Malformed
pub mod Reached
-- rows added
mod Calm
pub mod Larger
-- a twin lifted
pub mod AtToken
mod StopsAt
mod IsTwin
pub mod AtTwin
-- kinds that carry what is derived
pub mod Picks
pub mod Carried
pub mod Derived
mod Neutral
mod Rated
pub mod Products
mod Powers
-- what is calculated from the leaves
pub mod Calculated
pub mod Terms
-- laws that code over these rules wants
pub mod ProductLaws
pub mod NoKind
pub mod TwinLaws
pub mod TableLaws
pub mod InRange
-- demand 3
pub mod Shown
-- what compilation tells
pub mod Given
pub mod KindRules
mod Turned
pub mod RowRules
pub mod Compiles
pub mod Laid
pub mod Declares
pub mod Images
-- the premises met, and needed
mod Tested
pub mod Teaches
pub mod Needed
-- the table that a compilation writes is read as what it came to
pub mod Written
pub mod ReadBack
pub mod Entries
pub mod InForce
mod EntriesIn
pub mod IsTable
pub mod Lent
-- what a compilation guarantees
mod OneEntry
pub mod Row25
pub mod WellCompiled
-- what a refusal's number tells, and the exponents of products and powers
pub mod Causes
pub mod SiRule
-- demand 3 of calls
pub mod Calls
pub mod WithRow
