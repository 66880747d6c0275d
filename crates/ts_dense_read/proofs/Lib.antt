pub mod RoomLaws
pub mod BeginLaws
pub mod HoleLaws
pub mod OriginSteps
pub mod InsideLaws
pub mod TileSums
pub mod TileRanges
pub mod TurnedTiles
pub mod BeforeLaws
pub mod MeetTiles
pub mod SlotTakes
pub mod TileTakes
mod PieceParts
pub mod OriginLists
pub mod BoxTakes
