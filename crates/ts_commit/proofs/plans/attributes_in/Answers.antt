-- The next head is not of the schema, or none is left.
use Rattle.std.proofs.Common.{sym, ap, ◌∙◌, arith}
use Rattle.ts_base.specs.Keys.{key_eq}
use Rattle.ts_base.specs.declared.heads.Head.{Head}
use Rattle.ts_commit.proofs.PlanSteps.{attributes_next, attributes_past}
use Rattle.ts_commit.proofs.plans.attributes_in.Goals as goal

pub loop-place-preserved : goal.loop-place-preserved
loop-place-preserved c =
    let other = ap (λ (head : Head). key_eq head.schema c.args.schema) (sym c.index-heads-place.is) ∙ sym c.is_of_schema.ensures ∙ c.if-is_of_schema.false in
    attributes_next c.args.heads.now c.args.attrs.now c.args.schema c.loop-place.place _ c.loop-place.invariant c.index-heads-place.result (omega arith) (omega arith) other

pub returns : goal.returns
returns c = attributes_past c.args.heads.now c.args.attrs.now c.args.schema c.loop-place.place _ c.loop-place.invariant (omega arith)
