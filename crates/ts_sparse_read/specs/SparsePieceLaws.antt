-- The laws of sparse fragments in tiles as a way to write fragments and to read them.
use Rattle.ts_model.specs.Codecs.{CodecLaws}
use Rattle.ts_sparse_read.specs.Codecs.{sparse_codec, IsSparseIn, SparseTracks}
use Rattle.ts_sparse_read.specs.SparseLaws.{sparse_laws}
use Rattle.ts_sparse_read.specs.SparseOpens.{sparse_opens_well}
use Rattle.ts_sparse_read.specs.SparseSteps.{sparse_looks, sparse_asks, sparse_goes}

-- what is written in tiles is read again, and fetches find what was written
pub sparse_codec_laws : CodecLaws sparse_codec IsSparseIn SparseTracks
sparse_codec_laws = sparse_laws sparse_looks sparse_opens_well sparse_asks sparse_goes
