pub mod Decisions
pub mod HalfTasks
pub mod Received
pub mod Reuse
pub mod GoesOn
pub mod Cost
