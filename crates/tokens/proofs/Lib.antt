-- What crates above may know: a token by its code, and what a token of the code tells of the rules' (`Coded`), the tokens as a list (`Listed`), a loop over those that
-- remain (`Turns`), the depth (`Depths`), and what a formula's shape tells of its call (`Placed`).
-- `Examples` are small formulas.
pub mod Coded
pub mod Listed
pub mod Turns
pub mod Depths
pub mod Placed
mod Examples
