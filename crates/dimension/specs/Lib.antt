-- What the functions of this crate compute. Crates above cite these names and lean on the laws in proofs/, never on the text here.
pub mod Gcd
pub mod Integer
pub mod Fraction
pub mod Dimension
pub mod Grade
pub mod Applied
