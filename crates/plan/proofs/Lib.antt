pub mod Ruling
pub mod Adding
pub mod Asking
pub mod Formulas
pub mod Fitting
