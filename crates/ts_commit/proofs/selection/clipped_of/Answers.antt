-- What is clipped so far, and one fragment more.
use Rattle.std.proofs.Common.{◌++◌, ◌∷◌, [], ◌&&◌, not, map, take, sym, ap, ◌∙◌, arith}
use Rattle.std.specs.Prelude.{filter}
use Rattle.std.specs.BTreeSet.{contains}
use Rattle.std.specs.List.{list_any}
use Rattle.std.proofs.lemmas.List.{take_all}
use Rattle.ts_base.specs.Keys.{key_cmp, is_within}
use Rattle.ts_base.specs.declared.heads.Head.{Head}
use Rattle.ts_commit.specs.Selections.{is_usable}
use Rattle.ts_commit.proofs.Steps.{kept_yes, kept_no}
use Rattle.ts_commit.proofs.Selected.{clipped_is}
use Rattle.ts_commit.proofs.selection.clipped_of.Goals as goal
use Rattle.ts_commit.proofs.selection.clipped_of.Goals.{then-is_clipped+in_ok-push, else-is_clipped}

pub loop-head-preserved : goal.loop-head-preserved
loop-head-preserved c =
    let test = λ (head : Head). not (is_usable c.args.a c.args.b head) && list_any (λ k. is_within c.args.a c.args.b k && not (contains key_cmp c.in_ok-kept.kept k)) head.origins in
    let name = λ (head : Head). head.frag in
    elim c.if-is_clipped.branch [
      | then-is_clipped+in_ok-push w ↦ let step = kept_yes test name c.args.heads.now c.loop-head.head-index c.head-item.result (omega arith) (ap test (sym c.head-item.is) ∙ sym c.is_clipped.ensures ∙ w.if-is_clipped.true) in
          w.frags-is ∙ w.in_ok-push.ensures.ok ∙ ap (λ l. l ++ c.head-item.result.frag ∷ []) c.loop-head.invariant
          ∙ ap (λ (h : Head). map name (filter test (take c.loop-head.head-index c.args.heads.now)) ++ h.frag ∷ []) c.head-item.is ∙ sym step
      | else-is_clipped w ↦ let step = kept_no test name c.args.heads.now c.loop-head.head-index c.head-item.result (omega arith) (ap test (sym c.head-item.is) ∙ sym c.is_clipped.ensures ∙ w.if-is_clipped.false) in w.frags-is ∙ c.loop-head.invariant ∙ sym step
    ]

pub returns : goal.returns
returns c = c.loop-head.invariant ∙ ap (λ heads. map (λ head. head.frag) (filter (λ head. not (is_usable c.args.a c.args.b head) && list_any (λ k. is_within c.args.a c.args.b k && not (contains key_cmp c.in_ok-kept.kept k)) head.origins) heads)) (take_all c.loop-head.head-index c.args.heads.now (omega arith)) ∙ clipped_is c.args.a c.args.b c.args.heads.now (contains key_cmp c.in_ok-kept.kept) c.in_ok-kept.ensures
