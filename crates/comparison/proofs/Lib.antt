-- what the number that is said tells
pub mod Said
-- demand 3 of what two runs return
mod Answered
pub mod Demand3Returned
pub mod Taught
