-- What is kept by nodes and by their children.
use Rattle.std.proofs.Common.{not, sym, ap, ◌∙◌}
use Rattle.std.specs.List.{list_all, list_any}
use Rattle.std.proofs.lemmas.Result.{on_ok_weaker}
use Rattle.ts_cond.proofs.Children.{all_children, any_children, not_child}
use Rattle.ts_cond.specs.Views.{test_of}
use Rattle.ts_match.specs.Keeping.{holds_at, value_at}
use Rattle.ts_match.proofs.Kept.{kept_same}
use Rattle.ts_match.proofs.keeping.+keeps.Goals as goal

pub keep-returns-in-All : goal.keep-returns-in-All
keep-returns-in-All t c =
    let view = c.args.view.now in
    on_ok_weaker c.keep_all.result (kept_same (λ i. list_all (λ node. holds_at view (test_of node) i) c.as_slice.result.now) (holds_at view (test_of c.args.node.now)) c.args.kept.now c.keep_all.new.kept (λ i within.
    ap (list_all (λ node. holds_at view (test_of node) i)) c.as_slice.ensures ∙ sym (all_children (value_at view i) _) ∙ ap (λ node. holds_at view (test_of node) i) (sym c.in-All.is))) c.keep_all.ensures

pub keep-returns-in-Any : goal.keep-returns-in-Any
keep-returns-in-Any t c =
    let view = c.args.view.now in
    on_ok_weaker c.keep_any.result (kept_same (λ i. list_any (λ node. holds_at view (test_of node) i) c.as_slice-in-Any.result.now) (holds_at view (test_of c.args.node.now)) c.args.kept.now c.keep_any.new.kept (λ i within.
    ap (list_any (λ node. holds_at view (test_of node) i)) c.as_slice-in-Any.ensures ∙ sym (any_children (value_at view i) _) ∙ ap (λ node. holds_at view (test_of node) i) (sym c.in-Any.is))) c.keep_any.ensures

pub keep-returns-in-Not : goal.keep-returns-in-Not
keep-returns-in-Not t c =
    let view = c.args.view.now in
    on_ok_weaker c.leave_out.result (kept_same (λ i. not (holds_at view (test_of c.get.result.now) i)) (holds_at view (test_of c.args.node.now)) c.args.kept.now c.leave_out.new.kept (λ i within.
    ap (λ node. not (holds_at view (test_of node) i)) c.get.ensures ∙ sym (not_child (value_at view i) _) ∙ ap (λ node. holds_at view (test_of node) i) (sym c.in-Not.is))) c.leave_out.ensures
