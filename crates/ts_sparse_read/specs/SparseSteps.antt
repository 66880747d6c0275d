-- A fetch of a sparse fragment asks for parts that are held, and goes on well with what is held.
use Rattle.ts_schema.specs.Wants.{taken}
use Rattle.ts_model.specs.Codecs.{AsksLooks}
use Rattle.ts_fetch.proofs.PlanLaws.{asks_held, goes_well, plan_looks}
use Rattle.ts_sparse_read.specs.Judges.{sparse_judge}
use Rattle.ts_sparse_read.specs.Codecs.{sparse_codec}
use Rattle.ts_sparse_read.specs.SparseLaws.{SparseAsks, SparseGoes}

-- a fetch asks for nothing but gets and sizes
pub sparse_looks : AsksLooks sparse_codec
sparse_looks f r g c asked = plan_looks sparse_judge f g r c asked

-- a fetch asks for parts that the fragment has
pub sparse_asks : SparseAsks
sparse_asks frame s p look want f c on = asks_held sparse_judge look p.head.frag (taken want p.versions) f c on

-- a fetch that is told what is held goes on well
pub sparse_goes : SparseGoes
sparse_goes frame s p look want f c part bytes r on held speaks told = goes_well sparse_judge look p.head.frag (taken want p.versions) f c part bytes r on held speaks told
