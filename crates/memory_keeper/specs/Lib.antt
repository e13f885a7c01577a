pub mod Tables
pub mod Names
pub mod Exec
pub mod Meaning
