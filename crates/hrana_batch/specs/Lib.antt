pub mod Conditions
pub mod Means
pub mod Parts
pub mod Progress
pub mod Sent
pub mod Tree
pub mod Written
