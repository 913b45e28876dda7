-- What the proofs of this crate cite.
mod Compared
mod Unpacks
