pub mod Numbers
pub mod Levels
pub mod Masks
pub mod Laws
