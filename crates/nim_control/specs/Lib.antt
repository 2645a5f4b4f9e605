pub mod Checkpoints
pub mod Form
pub mod Given
pub mod Keeps
pub mod Seen
pub mod Sites
