-- The fragments so far, and the next one.
use Rattle.std.proofs.Common.{◌≡◌, true, [], ◌∷◌, ◌++◌, sym, ap, ◌∙◌, arith}
use Rattle.std.proofs.lemmas.List.{map-append}
use Rattle.ts_base.specs.declared.heads.Head.{Head}
use Rattle.ts_commit.specs.Plans.{is_in_bounds, taken_from}
use Rattle.ts_commit.proofs.PlanSteps.{source_yes, source_other, source_no, taken_more}
use Rattle.ts_commit.proofs.plans.taken.Goals as goal
use Rattle.ts_commit.proofs.plans.taken.Goals.{then-has+then-is_of_schema+else-not-is_in_bounds+in_ok-push, else-has, else-has-via-then-has+else-is_of_schema, else-has-via-else-has}

pub loop-head-preserved : goal.loop-head-preserved
loop-head-preserved c =
    let e = c.args.eligible.now in
    let k = c.args.schema in
    let heads = c.args.heads.now in
    let i = c.loop-head.head-index in
    let head = c.head-item.result in
    let so_far = c.loop-head.invariant.0 in
    let stays = taken_from c.args.attributes c.args.limits so_far in
    elim c.if-has.branch [
      | then-has+then-is_of_schema+else-not-is_in_bounds+in_ok-push w ↦
          let left = source_yes e k heads i head (omega arith) c.head-item.is (sym c.has.ensures ∙ w.if-has.true) (sym w.is_of_schema.ensures ∙ w.if-is_of_schema.true) in
          let total = w.with-more.ensures so_far c.loop-head.invariant.1 in
          let bounds : is_in_bounds c.args.attributes c.args.limits (so_far ++ head ∷ []) ≡ true = sym (w.is_in_bounds.ensures (so_far ++ head ∷ []) total) ∙ w.if-not-is_in_bounds.false in (
            so_far ++ head ∷ [],
            w.total-is ∙ total,
            bounds,
            w.frags-is ∙ w.in_ok-push.ensures.ok ∙ ap (λ l. l ++ head.frag ∷ []) c.loop-head.invariant.3 ∙ sym (map-append (λ (h : Head). h.frag) so_far (head ∷ [])),
            taken_more c.args.attributes c.args.limits so_far _ _ _ head left bounds c.loop-head.invariant.4,
          )
      | else-has w ↦ elim w.else-has.branch [
        | else-has-via-then-has+else-is_of_schema v ↦
            let left = source_other e k heads i head (omega arith) c.head-item.is (sym c.has.ensures ∙ v.if-has.true) (sym v.is_of_schema.ensures ∙ v.if-is_of_schema.false) in
            (so_far, w.total-is ∙ c.loop-head.invariant.1, c.loop-head.invariant.2, w.frags-is ∙ c.loop-head.invariant.3, ap stays (sym left) ∙ c.loop-head.invariant.4)
        | else-has-via-else-has v ↦
            let left = source_no e k heads i head (omega arith) c.head-item.is (sym c.has.ensures ∙ v.if-has.false) in
            (so_far, w.total-is ∙ c.loop-head.invariant.1, c.loop-head.invariant.2, w.frags-is ∙ c.loop-head.invariant.3, ap stays (sym left) ∙ c.loop-head.invariant.4)
      ]
    ]
