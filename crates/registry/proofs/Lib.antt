-- What code knows at each return of a lookup, and what the rules then say.
pub mod Answered
pub mod Settled
pub mod Raised
pub mod Coded
