-- One version more is kept, unless it is erased.
use Rattle.std.proofs.Common.{◌∙◌, sym, ap, cond, take, [], ◌∷◌, ◌++◌}
use Rattle.ts_reader.specs.Left.{versions_left}
use Rattle.ts_reader.proofs.Kept.{left_more}
use Rattle.ts_reader.proofs.left.unerased.Goals as goal

pub loop-version-preserved : goal.loop-version-preserved
loop-version-preserved c =
    let r = c.args.reading.now in
    let schemas = c.args.schemas.now in
    let versions = c.args.versions.now in
    let place = c.loop-version.version-index in
    let v = c.version-item.result in
    c.in_ok-push_left.ensures
    ∙ ap (λ ws. ws ++ cond c.is_erased_by-erased.result [] (v ∷ [])) c.loop-version.invariant
    ∙ ap (λ b. versions_left r schemas (take place versions) ++ cond b [] (v ∷ [])) c.is_erased_by-erased.ensures
    ∙ sym (left_more r schemas versions place v c.loop-version-test.true c.version-item.is)
