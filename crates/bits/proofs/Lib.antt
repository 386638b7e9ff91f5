pub mod Counting
pub mod Determined
pub mod Digit
pub mod Lowest
pub mod Mask
pub mod Truth
