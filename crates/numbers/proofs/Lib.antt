-- What is read past the end.
pub mod Past
