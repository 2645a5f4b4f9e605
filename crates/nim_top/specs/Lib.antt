pub mod Answer
pub mod Parts
pub mod Texts
pub mod Words
