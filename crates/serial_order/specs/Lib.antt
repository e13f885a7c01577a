pub mod Journal
pub mod Serial
pub mod Machine
pub mod Turns
pub mod Explained
