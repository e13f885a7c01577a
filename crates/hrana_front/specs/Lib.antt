pub mod Ends
pub mod Front
pub mod Items
pub mod Memory
pub mod Owed
pub mod Pace
pub mod Sockets
pub mod Unsent
