pub mod Grid
pub mod GridBook
