pub mod Apply
pub mod ReadBack
pub mod Functions
pub mod Text
pub mod Value
