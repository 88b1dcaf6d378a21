pub mod Records
pub mod Encoded
pub mod Reading
pub mod Within
pub mod Unique
