pub mod Times
pub mod Reduced
pub mod Polynomials
pub mod Generator
pub mod Division
pub mod Multiples
