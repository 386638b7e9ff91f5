pub mod Each
pub mod Refusal
pub mod Graph
pub mod Check
pub mod Price
pub mod Quad
pub mod Rows
pub mod Levels
