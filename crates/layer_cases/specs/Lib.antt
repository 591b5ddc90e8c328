pub mod Row
pub mod RowBook
