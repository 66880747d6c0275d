-- What is loaded so far, and one fragment more.
use Rattle.std.proofs.Common.{◌++◌, ◌∷◌, [], ◌&&◌, not, map, take, sym, ap, ◌∙◌, arith}
use Rattle.std.specs.Prelude.{filter}
use Rattle.std.specs.BTreeSet.{contains}
use Rattle.std.proofs.lemmas.List.{take_all}
use Rattle.ts_base.specs.Keys.{frag_cmp}
use Rattle.ts_base.specs.declared.heads.Head.{Head}
use Rattle.ts_commit.specs.Selections.{is_usable}
use Rattle.ts_commit.proofs.Steps.{kept_yes, kept_no}
use Rattle.ts_commit.proofs.Selected.{loaded_is}
use Rattle.ts_commit.proofs.selection.loaded_of.Goals as goal
use Rattle.ts_commit.proofs.selection.loaded_of.Goals.{then-is_loaded+in_ok-push, else-is_loaded}

pub loop-head-preserved : goal.loop-head-preserved
loop-head-preserved c =
    let test = λ (head : Head). is_usable c.args.a c.args.b head && not (contains frag_cmp c.in_ok-named.named head.frag) in
    let name = λ (head : Head). head.frag in
    elim c.if-is_loaded.branch [
      | then-is_loaded+in_ok-push w ↦ let step = kept_yes test name c.args.heads.now c.loop-head.head-index c.head-item.result (omega arith) (ap test (sym c.head-item.is) ∙ sym c.is_loaded.ensures ∙ w.if-is_loaded.true) in
          w.frags-is ∙ w.in_ok-push.ensures.ok ∙ ap (λ l. l ++ c.head-item.result.frag ∷ []) c.loop-head.invariant
          ∙ ap (λ (h : Head). map name (filter test (take c.loop-head.head-index c.args.heads.now)) ++ h.frag ∷ []) c.head-item.is ∙ sym step
      | else-is_loaded w ↦ let step = kept_no test name c.args.heads.now c.loop-head.head-index c.head-item.result (omega arith) (ap test (sym c.head-item.is) ∙ sym c.is_loaded.ensures ∙ w.if-is_loaded.false) in w.frags-is ∙ c.loop-head.invariant ∙ sym step
    ]

pub returns : goal.returns
returns c = c.loop-head.invariant ∙ ap (λ heads. map (λ head. head.frag) (filter (λ head. is_usable c.args.a c.args.b head && not (contains frag_cmp c.in_ok-named.named head.frag)) heads)) (take_all c.loop-head.head-index c.args.heads.now (omega arith)) ∙ loaded_is c.args.a c.args.b c.args.heads.now c.args.vacs.now (contains frag_cmp c.in_ok-named.named) c.in_ok-named.ensures
