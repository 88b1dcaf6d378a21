pub mod PackedLaws
pub mod Fields
pub mod Bytes
pub mod Gathered
pub mod Appended
pub mod Pieces
