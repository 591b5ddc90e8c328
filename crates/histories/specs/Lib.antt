pub mod Promise
pub mod Tokens
pub mod Courses
pub mod Parked
