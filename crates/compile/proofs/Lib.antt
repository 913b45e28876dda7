-- Free of code. What crates above and other modules of this one may use:
--     Ruled        what a rule answers, step by step
--     Firsts       the first that passes, among all and among fewer
--     Told         whether a check was refused
--     EachRecord   a loop over rules that stops at the first refusal
pub mod Ruled
pub mod Firsts
pub mod Told
pub mod EachRecord
-- what code knows at each return of a rule of kinds
mod OwnIds
mod Differences
mod Neutral
mod Rated
-- and of rows: what their ids name, what the earlier ones enter, the rule over both
mod RowSteps
mod RowAsked
mod Prefix
mod RowRule
-- the whole: one stage after the other, over words that are read as what is declared
mod Stages
mod FrontKinds
mod Readied
mod Copied
