pub mod Table
pub mod Pass
pub mod Leaves
pub mod Costs
pub mod Answer
