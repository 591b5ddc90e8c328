pub mod Grammar
pub mod Parsing
pub mod Words
pub mod Stops
pub mod Laws
