pub mod Refusals
pub mod Each
pub mod Values
pub mod Formulas
