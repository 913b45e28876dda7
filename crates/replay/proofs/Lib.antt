-- What the proofs of this crate cite.
mod Asked
mod Compared
mod Past
mod Ranges
mod Widened
