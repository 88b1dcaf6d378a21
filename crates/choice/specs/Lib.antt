pub mod Lines
pub mod Candidates
