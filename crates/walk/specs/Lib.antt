pub mod Problem
pub mod Walk
pub mod Run
pub mod Best
