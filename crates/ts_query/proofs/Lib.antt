pub mod RowSteps
pub mod PieceSteps
