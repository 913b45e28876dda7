-- What the proofs of this crate cite.
mod Agreeing
mod Found
