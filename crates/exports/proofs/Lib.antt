-- Sheets: the words of the code's answers are those of the rules' answers, and they are 32 (`compiled_long`, `kind_long`, `term_long`).
pub mod Sheets
-- the words that the code makes of a refusal
mod Made
-- where the report's part lies, and that it is within the slice that lends it (`part_within`)
pub mod Pointed
