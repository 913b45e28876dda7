-- What is shown of the teaching catalog, by computation.
pub mod Cases
pub mod Compiles
pub mod Misread
pub mod Runs
