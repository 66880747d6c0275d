-- One value more.
use Rattle.std.proofs.Common.{◌+◌, ◌++◌, [], ◌∷◌, drop, take, sym, ap, ◌∙◌}
use Rattle.std.proofs.lemmas.List.{append_assoc}
use Rattle.ts_table.specs.Tables.{version_or}
use Rattle.ts_reader.specs.Shown.{version_val, version_vals}
use Rattle.ts_reader.proofs.LaidVals.{part_more}
use Rattle.ts_reader.proofs.laid.push_part.Goals as goal

pub loop-step-preserved : goal.loop-step-preserved
loop-step-preserved c =
    let r = c.args.reading.now in
    let schemas = c.args.schemas.now in
    let a = c.args.attr.now in
    let versions = c.args.batch.now in
    let from = c.args.from in
    let step = c.loop-step.step in
    let val = version_val r schemas a (version_or versions (from + step)) in
    let before = version_vals r schemas (take step (drop from versions)) a in
    c.in_ok-push_version.ensures
    ∙ ap (λ v. c.loop-step.column ++ version_val r schemas a v ∷ []) c.of-version.ensures
    ∙ ap (λ vs. vs ++ val ∷ []) c.loop-step.invariant
    ∙ append_assoc c.args.column.now before (val ∷ [])
    ∙ ap (λ vs. c.args.column.now ++ vs) (sym (part_more r schemas a versions from step c.args.count c.requires.within c.loop-step-test.true))
