-- What is shown on the way: searches, and the layout taken apart.
mod Finds
mod Ids
mod Within
mod Split
mod Exponents
mod Header
mod Records
mod Block
mod Whole
mod Refused
