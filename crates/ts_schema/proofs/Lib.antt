pub mod Counts
pub mod DimLemmas
pub mod DimLoop
pub mod FirstAttr
pub mod FrameLaws
pub mod NameSets
pub mod NoneYet
pub mod SchemaLaws
pub mod Shown
pub mod WholeRows
mod WorkedRows
