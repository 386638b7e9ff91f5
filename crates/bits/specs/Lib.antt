pub mod Bit
pub mod Choice
pub mod Word
