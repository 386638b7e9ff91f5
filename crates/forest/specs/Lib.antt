pub mod Order
pub mod Forest
pub mod Answer
pub mod Recogniser
