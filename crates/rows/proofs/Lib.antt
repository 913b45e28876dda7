-- A list of row records and its words.
mod Words
mod Stands
mod Listed
