pub mod Inserting
pub mod Marking
