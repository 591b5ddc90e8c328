pub mod Refusals
pub mod Limits
pub mod Rules
pub mod Travel
pub mod Critical
pub mod Examples
pub mod Ranges
pub mod Content
