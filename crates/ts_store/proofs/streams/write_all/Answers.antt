use Rattle.std.proofs.Common.{◌∙◌}
use Rattle.ts_store.proofs.Writes.{front_grown}
use Rattle.ts_store.proofs.streams.write_all.Goals as goal

pub loop-rest-preserved : goal.loop-rest-preserved
loop-rest-preserved g c =
    let (written, unhurt) = c.loop-rest.invariant in
    (front_grown _ _ _ _ _ _ _ written.1 written.2 c.in_ok-count.ensures.bytes, c.in_ok-count.ensures.cause.same ∙ unhurt)
