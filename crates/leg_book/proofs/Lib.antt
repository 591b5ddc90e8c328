pub mod Records
pub mod Collecting
pub mod Stores
