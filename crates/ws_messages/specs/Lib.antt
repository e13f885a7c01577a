pub mod Client
pub mod Failures
pub mod Kinds
pub mod Requests
pub mod Server
pub mod WrittenClient
pub mod WrittenServer
