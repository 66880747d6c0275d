pub mod Bounds
pub mod Boxes
pub mod Dims
pub mod DomainBuffer
pub mod Domains
pub mod Rects
pub use Rattle.ts_base.specs.Values
pub use Rattle.ts_base.specs.Labels
