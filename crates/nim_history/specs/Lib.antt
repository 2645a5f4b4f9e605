pub mod GoesOn
pub mod History
pub mod InTurn
pub mod Kept
pub mod Truth
