pub mod Scale
pub mod Sheet
pub mod Drawing
pub mod Reader
pub mod Writer
pub mod Inner
