-- Document 01 as definitions, a module a concept. Each definition stands under the sentence that it says; docs/TRACE.md lists them by sentence.
-- what a compiled catalog is, and why something is refused
pub mod Kinds
pub mod Refusal
-- products, sums and powers
pub mod Arithmetic
-- the image: bytes, layout, what it declares, its compilation
pub mod Bytes
pub mod Layout
pub mod Catalog
pub mod Compile
pub mod Image
-- the table's words, and lookups over them
pub mod Table
pub mod Lookup
-- formulas
pub mod Formula
pub mod Token
pub mod Call
-- what is printed
pub mod Report
