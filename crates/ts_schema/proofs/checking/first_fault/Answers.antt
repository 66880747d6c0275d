use Rattle.std.proofs.Common.{rules, ◌≡◌, not, take, sym, ap, ◌∙◌, None}
use Rattle.ts_schema.specs.Attrs.{has_attr}
use Rattle.ts_schema.specs.Faults.{attr_fault, fault_of}
use Rattle.ts_schema.proofs.NameSets.{names_more, fault_next, not_not}
use Rattle.ts_schema.proofs.checking.first_fault.Goals as goal

pub loop-attr-preserved : goal.loop-attr-preserved
loop-attr-preserved c =
    let dims = c.args.dims.now in
    let attrs = c.args.attrs.now in
    let place = c.loop-attr.attr-index in
    let attr = c.attr-item.result in
    let again : not c.in_ok-new.new ≡ has_attr (take place attrs) attr.name = ap not c.in_ok-new.ensures.added ∙ not_not _ ∙ c.loop-attr.invariant.1 attr.name in
    let fault : fault_of dims (not c.in_ok-new.new) attr ≡ None = search rules in
    let none : attr_fault dims (take place attrs) attr ≡ None = ap (λ b. fault_of dims b attr) (sym again) ∙ fault in (
      fault_next dims attrs place attr _ c.loop-attr-test.true c.attr-item.is none c.loop-attr.invariant.0,
      names_more (λ a. a.name) c.loop-attr.names c.insert.new.self attrs place attr c.loop-attr-test.true c.attr-item.is c.in_ok-new.ensures.updates c.loop-attr.invariant.1,
    )
