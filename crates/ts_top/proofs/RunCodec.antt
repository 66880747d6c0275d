-- The program's way to write fragments keeps the laws of one.
use Rattle.std.proofs.Common.{ℕ, false}
use Rattle.ts_dense.specs.Dense.{IsDense}
use Rattle.ts_model.specs.Codecs.{CodecLaws}
use Rattle.ts_model.specs.Gets.{AsksBounded}
use Rattle.ts_fetch.specs.Plans.{gets_left}
use Rattle.ts_kinds.specs.KindLaws.{either_bounded, either_laws, laws_on, IsOfKind}
use Rattle.ts_kinds.specs.Kinds.{either_count}
use Rattle.ts_sparse_read.specs.Codecs.{sparse_codec, sparse_gets, SparseTracks, IsSparseIn}
use Rattle.ts_sparse_read.specs.SparseGets.{sparse_bounded}
use Rattle.ts_sparse_read.specs.SparsePieceLaws.{sparse_codec_laws}
use Rattle.ts_dense_read.specs.SpaceCodecs.{space_codec, space_gets, SpaceTracks}
use Rattle.ts_dense_read.specs.SpaceGets.{space_bounded}
use Rattle.ts_dense_read.specs.SpaceLaws.{space_laws}
use Rattle.ts_top.specs.Runners.{RunFetch, run_codec, run_most, run_spelled, run_tracks}

-- what is written is read again, and fetches find what was written
pub run_laws : CodecLaws run_codec run_spelled run_tracks
run_laws = either_laws space_codec sparse_codec IsDense IsSparseIn SpaceTracks SparseTracks space_laws (laws_on (IsOfKind false) sparse_codec IsSparseIn SparseTracks sparse_codec_laws)

-- how many gets a fetch of the program may still make
abbrev pub run_gets : RunFetch → ℕ
run_gets = either_count gets_left gets_left

-- a fetch makes no more gets than it may of the piece that it reads
pub run_bounded : AsksBounded run_codec run_spelled run_gets run_most
run_bounded = either_bounded space_codec sparse_codec IsDense IsSparseIn gets_left gets_left space_gets sparse_gets space_bounded sparse_bounded
