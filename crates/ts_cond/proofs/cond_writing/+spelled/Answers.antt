-- A list is spelled by its children, and a `not` by its child.
use Rattle.std.proofs.Common.{◌≡◌, ◌++◌, OnOk, subst, sym, ap, ◌∙◌, ℕ, List, rules}
use Rattle.ts_cond.specs.CondTexts.{tag_bytes, node_bytes}
use Rattle.ts_cond.specs.declared.tags.Tag.TheVariants.{AllOf, AnyOf, NotOf}
use Rattle.ts_cond.specs.Views.{test_of}
use Rattle.ts_cond.proofs.Trees.{list_bytes, all_spelled, any_spelled, not_spelled}
use Rattle.ts_cond.proofs.cond_writing.+spelled.Goals as goal

pub write_node-returns-in-All : goal.write_node-returns-in-All
write_node-returns-in-All t c =
    let spelled = ap (list_bytes AllOf) c.as_slice.ensures ∙ all_spelled c.in-All.nodes ∙ ap (λ node. node_bytes (test_of node)) (sym c.in-All.is) in
    let P : List ℕ → Type 0 = λ bytes. OnOk c.write_list.result (c.write_list.new.scribe ≡ c.args.scribe.now ++ bytes) in
    subst P spelled c.write_list.ensures

pub write_node-returns-in-Any : goal.write_node-returns-in-Any
write_node-returns-in-Any t c =
    let spelled = ap (list_bytes AnyOf) c.as_slice-in-Any.ensures ∙ any_spelled c.in-Any.nodes ∙ ap (λ node. node_bytes (test_of node)) (sym c.in-Any.is) in
    let P : List ℕ → Type 0 = λ bytes. OnOk c.write_list-in-Any.result (c.write_list-in-Any.new.scribe ≡ c.args.scribe.now ++ bytes) in
    subst P spelled c.write_list-in-Any.ensures

pub write_node-returns-in-Not : goal.write_node-returns-in-Not
write_node-returns-in-Not t c =
    let spelled = ap (λ node. tag_bytes NotOf ++ node_bytes (test_of node)) c.get.ensures ∙ not_spelled c.in-Not.inner ∙ ap (λ node. node_bytes (test_of node)) (sym c.in-Not.is) in
    let P : List ℕ → Type 0 = λ bytes. OnOk c.write_not.result (c.write_not.new.scribe ≡ c.args.scribe.now ++ bytes) in
    subst P spelled c.write_not.ensures

pub write_node-returns-in-Compare : goal.write_node-returns-in-Compare
unfolding node_bytes
write_node-returns-in-Compare t c = search rules

pub write_node-returns-in-Member : goal.write_node-returns-in-Member
unfolding node_bytes
write_node-returns-in-Member t c = search rules

pub write_node-returns-in-IsNull : goal.write_node-returns-in-IsNull
unfolding node_bytes
write_node-returns-in-IsNull t c = search rules
