pub mod Turns
pub mod Tickets
pub mod History
pub mod Laws
