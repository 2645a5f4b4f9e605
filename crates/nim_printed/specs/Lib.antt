pub mod Laws
pub mod Lines
pub mod Printer
pub mod Spelled
pub mod Trees
pub mod Words
