pub mod TokenLists
pub mod Acting
pub mod Asking
pub mod CallLists
pub mod Finishing
