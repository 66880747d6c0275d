use Rattle.std.proofs.Common.{sym, ap, ◌∙◌, ℕ, not}
use Rattle.std.specs.List.{list_all, list_any}
use Rattle.ts_base.specs.declared.values.Val.{Val}
use Rattle.ts_cond.specs.Holds.{holds}
use Rattle.ts_match.specs.Sights.{value_in}
use Rattle.ts_cond.specs.Views.{test_of}
use Rattle.ts_cond.proofs.Children.{all_children, any_children, not_child}
use Rattle.ts_match.proofs.matching.+sizes.Goals as goal

pub node_holds-returns-in-All : goal.node_holds-returns-in-All
node_holds-returns-in-All t c =
    let value : ℕ → Val = value_in c.args.sight.now in
    c.all_hold.ensures ∙ ap (list_all (λ node. holds value (test_of node))) c.as_slice.ensures ∙ sym (all_children value _) ∙ ap (λ node. holds value (test_of node)) (sym c.in-All.is)

pub node_holds-returns-in-Any : goal.node_holds-returns-in-Any
node_holds-returns-in-Any t c =
    let value : ℕ → Val = value_in c.args.sight.now in
    c.any_holds.ensures ∙ ap (list_any (λ node. holds value (test_of node))) c.as_slice-in-Any.ensures ∙ sym (any_children value _) ∙ ap (λ node. holds value (test_of node)) (sym c.in-Any.is)

pub node_holds-returns-in-Not : goal.node_holds-returns-in-Not
node_holds-returns-in-Not t c =
    let value : ℕ → Val = value_in c.args.sight.now in
    ap not (c.node_holds.ensures ∙ ap (λ node. holds value (test_of node)) c.get.ensures) ∙ sym (not_child value _) ∙ ap (λ node. holds value (test_of node)) (sym c.in-Not.is)
