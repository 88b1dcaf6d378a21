pub mod Raw
pub mod Positions
