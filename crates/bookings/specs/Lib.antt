pub mod States
pub mod Owed
pub mod Answers
pub mod Steps
pub mod Registers
pub mod Reserving
