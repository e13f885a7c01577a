pub mod Constraint
pub mod Chosen
pub mod Spans
pub mod Keys
