pub mod TokenLists
pub mod Runs
pub mod Callers
pub mod Rehearsed
