-- Demand 3, as it is to be read: over kinds and rows its premises (Premises) and what it says of a formula (Demand3), over images and lent words the
-- same (Calls).
-- what is added, and how far a formula has come
pub mod Larger
pub mod Reached
pub mod AtToken
pub mod Premises
pub mod Demand3
pub mod Images
pub mod Calls
-- what a compilation guarantees of kinds, rows and words
pub mod WellCompiled
-- what a refusal's number tells, and the exponents of products and powers
pub mod Causes
pub mod SiRule
-- the teaching catalog's image with a row, on which it is shown
pub mod LargerImage
