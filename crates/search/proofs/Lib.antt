pub mod Checking
pub mod Showing
pub mod Putting
pub mod Firsts
pub mod Stepping
pub mod Granting
