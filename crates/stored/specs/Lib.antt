-- What the stored files hold.
pub mod Files
pub mod Exponents
pub mod Packed
pub mod Answers
