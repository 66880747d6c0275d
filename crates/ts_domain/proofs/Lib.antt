pub mod Between
pub mod BoundsLemmas
pub mod Steps
pub mod BoxLemmas
pub mod TileLemmas
pub mod DomainLemmas
pub mod RectLemmas
