pub mod Kinds
pub mod Sort
pub mod EventOrder
