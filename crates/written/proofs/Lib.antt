-- What crates above may use, beyond the contracts:
--     Places     what stands in the table's words: in the head, at a kind, past the kinds, at the rows in force
--     Kinded     of kinds by the list of their links: roles, differences, rates; how many kinds there are (`count_in`)
--     InForce    of what rows enter; what is listed of a row's ids (`named_at`)
--     Parts      of the table's front and rows, and of counts within the limits (`fits_told`); of a list put behind another (`put_tail`)
--     Pasted     of lists put one after the other over zeros: `copies`, `appends`
pub mod Places
pub mod Kinded
pub mod InForce
pub mod Parts
pub mod Pasted
-- on the way there
mod Listed
mod Marked
