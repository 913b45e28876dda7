-- what the code returns of the rules
pub mod Shown
-- demand 3 of what two runs return
pub mod Returned
-- what the number that a program prints tells
pub mod Said
