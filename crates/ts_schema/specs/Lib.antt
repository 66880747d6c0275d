pub mod Attrs
pub mod BrokenSchemas
pub mod Evolutions
pub mod Faults
pub mod FrameTexts
pub mod Parts
pub mod SchemaTexts
pub mod Wants
