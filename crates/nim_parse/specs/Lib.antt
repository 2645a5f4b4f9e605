pub mod Cursor
pub mod Driver
pub mod Grammar
pub mod Input
pub mod Nesting
pub mod Rules
pub mod States
