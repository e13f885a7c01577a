pub mod Answers
pub mod Bodies
pub mod Failures
pub mod Requests
pub mod Written
pub mod Exchanges
pub mod Batons
