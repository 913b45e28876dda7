-- What crates above may use, beyond the contracts:
--     Links        of code that answers with the index of a kind or none: `links`
--     Fields       of the words of a kind, read under the count: `fields`, `dims_known`
--     Exponents    of exponents in words, read, compared and written: `sames`
--     Spans        of a range in which nothing is found: it grows, each fails, and what fails one test throughout fails another
pub mod Links
pub mod Fields
pub mod ExponentsInWords
pub mod Spans
-- on the way there
mod Scanned
