-- The combinators that every definition of the project is made of. Each is a few lines and means what its name says; its laws are in proofs/.
pub mod Options
pub mod Out
pub mod Ranges
