-- What the code knows, and what the rules then say:
--     Held         of the stack and one step: `steps`
--     Ends         of the run and its answer: `turns`, `ends`
pub mod Held
pub mod Ends
