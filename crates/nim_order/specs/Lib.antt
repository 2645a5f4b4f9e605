pub mod Contents
pub mod Laws
pub mod Longer
pub mod Orders
pub mod Progress
pub mod Rule
