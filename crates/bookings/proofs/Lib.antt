pub mod Places
pub mod Acting
pub mod Adding
pub mod Reserving
pub mod Owing
pub mod Steps
pub mod Granting
