pub mod LastLegs
pub mod Listing
