use Rattle.ts_schema.proofs.NameSets.{names_more}
use Rattle.ts_schema.proofs.evolution.attr_names.Goals as goal

pub loop-attr-preserved : goal.loop-attr-preserved
loop-attr-preserved c =
    names_more (λ a. a.name) c.loop-attr.names c.insert.new.self c.args.attrs.now c.loop-attr.attr-index c.attr-item.result c.loop-attr-test.true c.attr-item.is c.in_ok-insert.ensures.updates c.loop-attr.invariant
