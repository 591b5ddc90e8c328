pub mod Requests
pub mod Routes
pub mod Arrivals
pub mod Steps
pub mod Finds
