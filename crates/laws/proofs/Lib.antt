-- The laws of the combinators, and the rulesets by which `search` proves code against them:
--     cases     branches against `cond`                    scan     a loop that looks for the first
--     spans     a scan of a part of a range                seeks    scans of its parts, one after the other
--     anys      a loop that gathers whether one passes     everys   a loop that gathers whether all do
--     alls      a loop that tests them all                 picks    a loop that counts or lists those that pass
--     writes    a loop that writes a lent list by a rule   fills    the same for an array
--     sums      a loop that adds up                        checks   rules in a row, and a loop over them
pub mod Cases
pub mod First
pub mod FirstFrom
pub mod All
pub mod Picked
pub mod Tab
pub mod Overlay
pub mod Sum
pub mod Below
pub mod Checks
pub mod Part
