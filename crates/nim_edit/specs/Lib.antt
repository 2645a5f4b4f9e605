pub mod Carried
pub mod Cells
pub mod Form
pub mod Halves
pub mod Instances
pub mod Masks
pub mod Moves
pub mod Refusals
