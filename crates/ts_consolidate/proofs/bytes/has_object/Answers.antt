use Rattle.std.proofs.Common.{subst}
use Rattle.ts_wire.specs.Exact.{IsBytes}
use Rattle.ts_consolidate.proofs.bytes.has_object.Goals as goal

pub returns-clause-bytes : goal.returns-clause-bytes
returns-clause-bytes c = subst IsBytes c.as_slice.ensures c.has_bytes.ensures
