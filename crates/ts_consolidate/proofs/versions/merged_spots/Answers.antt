-- Of versions in order the last of each cell are the newest ones.
use Rattle.std.proofs.Common.{Bool, sym, ap, ◌∙◌}
use Rattle.std.proofs.lemmas.Result.{IfOk-weaker}
use Rattle.ts_batch.specs.Batches.{versions_of}
use Rattle.ts_piece.specs.Spots.{spotted}
use Rattle.ts_model.specs.Merging.{in_version_order, merged_versions}
use Rattle.ts_consolidate.proofs.InOrder.{last_of_order}
use Rattle.ts_consolidate.proofs.versions.merged_spots.Goals as goal

pub returns-then-last-clause-kept : goal.returns-then-last-clause-kept
returns-then-last-clause-kept c =
    let frame = c.args.frame.now in
    let batches = c.args.batches.now in
    let ordered = ap (spotted batches) c.as_slice.ensures.value ∙ c.in_ok-ordered.ensures.order ∙ ap (in_version_order frame) c.in_ok-all.ensures.all in
    IfOk-weaker c.last_alone.result _ _ (λ list is.
    is ∙ last_of_order frame (versions_of batches) (spotted batches c.as_slice.result.now) ordered ∙ ap (λ (b : Bool). merged_versions frame b (versions_of batches)) (sym c.if-last.true)) c.last_alone.ensures.last
