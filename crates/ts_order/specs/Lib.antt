pub mod Orders
pub mod Places
pub mod Tiles
pub use Rattle.ts_domain.specs.Bounds
pub use Rattle.ts_domain.specs.Boxes
pub use Rattle.ts_domain.specs.Dims
pub use Rattle.ts_domain.specs.Domains
