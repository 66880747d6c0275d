-- The laws of dense fragments in space tiles as a way to write fragments of dense arrays and to read them.
use Rattle.std.specs.Prelude.{true}
use Rattle.ts_dense.specs.Dense.{IsDense}
use Rattle.ts_model.specs.Codecs.{CodecLawsOn}
use Rattle.ts_kinds.specs.KindLaws.{IsOfKind}
use Rattle.ts_dense_read.specs.SpaceCodecs.{space_codec, SpaceTracks}
use Rattle.ts_dense_read.specs.SpaceWrites.{space_ordinary}
use Rattle.ts_dense_read.specs.SpaceMerges.{space_merged}
use Rattle.ts_dense_read.specs.SpaceParts.{space_last, space_once, space_spells}
use Rattle.ts_dense_read.specs.SpaceStores.{space_storable}
use Rattle.ts_dense_read.specs.FoundFooters.{space_head_there}
use Rattle.ts_dense_read.specs.FoundPieces.{judge_finds}
use Rattle.ts_dense_read.specs.SpaceBegins.{space_looks, space_asks, space_goes, space_opens_well}

-- what is written in space tiles is read again, and fetches find what was written
pub space_laws : CodecLawsOn (IsOfKind true) space_codec IsDense SpaceTracks
space_laws = record {
  ordinary = space_ordinary;
  merged = space_merged;
  parts = space_spells;
  last = λ frame s p is. space_last frame s p;
  storable = space_storable;
  once = space_once;
  head = space_head_there;
  looks = space_looks;
  opens = space_opens_well judge_finds;
  asks = space_asks;
  goes = space_goes;
}
