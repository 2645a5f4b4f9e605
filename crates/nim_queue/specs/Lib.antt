pub mod Arrived
pub mod Counts
pub mod Joined
pub mod Midway
pub mod Stands
pub mod Used
