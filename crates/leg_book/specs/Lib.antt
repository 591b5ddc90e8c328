pub mod Records
pub mod LegBook
