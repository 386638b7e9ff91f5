pub mod Pair
pub mod Better
pub mod Repair
pub mod Packing
pub mod Tree
pub mod Depth
