pub mod Told
pub mod Stepped
pub mod Kinds
pub mod Requested
pub mod Timings
pub mod Events
