pub mod Cache
pub mod Given
pub mod Mends
pub mod Parts
pub mod Patches
pub mod Uses
