pub mod Table
pub mod Trail
pub mod Tally
