pub mod Cluster
pub mod Nodes
pub mod Events
pub mod Few
pub mod Schedules
pub mod InStep
pub mod Law
