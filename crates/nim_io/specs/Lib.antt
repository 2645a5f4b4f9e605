pub mod Counts
pub mod Files
pub mod Load
pub mod MemFiles
pub mod MemSink
pub mod MemSource
pub mod Sink
