pub mod Bytes
pub mod Numbers
pub mod Pieces
pub mod Refusals
pub mod Rules
pub mod Source
pub mod Texts
