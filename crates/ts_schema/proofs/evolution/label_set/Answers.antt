use Rattle.ts_schema.proofs.NameSets.{names_more}
use Rattle.ts_schema.proofs.evolution.label_set.Goals as goal

pub loop-label-preserved : goal.loop-label-preserved
loop-label-preserved c =
    names_more (λ name. name) c.loop-label.names c.insert.new.self c.args.labels.now c.loop-label.label-index c.label-item.result c.loop-label-test.true c.label-item.is c.in_ok-insert.ensures.updates c.loop-label.invariant
