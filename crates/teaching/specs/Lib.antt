-- Document 01's teaching catalog: its kinds, and its image.
pub mod Listed
pub mod Image
