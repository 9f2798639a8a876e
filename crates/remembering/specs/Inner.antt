pub mod Buffers
pub mod LentBuffers
pub mod GateChanges
pub mod Memories
pub mod Rows
pub mod Views
