-- `said_told`: the numbers that code says are those of the rules
pub mod Told
