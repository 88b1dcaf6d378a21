pub mod Area
pub mod Zigzag
pub mod Free
pub mod Ranges
pub mod FormatWords
pub mod Stream
