-- what the rules of kinds and of rows come to, step by step
pub mod Shown
pub mod Rows
