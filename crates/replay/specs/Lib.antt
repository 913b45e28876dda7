-- What the rules answer to a stored request, and what a stored compilation or line says of a table or an input.
pub mod Requests
pub mod Compiled
pub mod Pieces
