-- One column more.
use Rattle.std.proofs.Common.{◌≡◌, ◌<◌, ◌+◌, Bool, true, false, List, ◌++◌, ◌∷◌, [], length, get_or, sym, ap, subst, ◌∙◌}
use Rattle.std.specs.Prelude.{if◌then◌else◌}
use Rattle.std.specs.Vec.Iter.{into_iter_items}
use Rattle.ts_base.specs.declared.values.Val.{Val}
use Rattle.ts_gather.proofs.RowLaws.{Moving, moving_more, moving_past}
use Rattle.ts_gather.proofs.chosen.moved_columns.Goals as goal
use Rattle.ts_gather.proofs.chosen.moved_columns.Goals.{then-taken, else-taken}

apart : (b : Bool) → b ≡ true → b ≡ false → ⊥
apart b on off = cc

pub loop-column-preserved : goal.loop-column-preserved
loop-column-preserved c =
    let l = c.loop-column in
    let attrs = c.args.attrs.now in
    let vals = c.args.vals.items in
    let rest = into_iter_items c.loop-column.column-iterator in
    let more = into_iter_items c.next.new.self in
    let column = c.in-Some.column in
    let steps = c.in-Some.ensures.steps.0 in
    elim c.if-taken.branch [
      | then-taken w ↦
          let pushed = c.in_ok-push_if.ensures ∙ ap (λ b. if b then l.columns.items ++ column ∷ [] else l.columns.items) w.if-taken.true in
          let next = c.is_next-taken.ensures.0 w.if-taken.true in
          subst (λ n. Moving attrs vals c.push_if.new.columns.items more n (l.place + 1)) (sym w.next-is) (moving_more attrs vals l.columns.items rest more column l.next l.place l.invariant steps c.push_if.new.columns.items c.requires next.0 next.1 pushed)
      | else-taken w ↦
          let kept = c.in_ok-push_if.ensures ∙ ap (λ b. if b then l.columns.items ++ column ∷ [] else l.columns.items) w.if-taken.false in
          let other : (c.loop-column.next < length c.args.attrs.now) × (get_or c.args.attrs.now c.loop-column.next 0 ≡ c.loop-column.place) → ⊥ = λ next. let yes : c.is_next-taken.result ≡ true = c.is_next-taken.ensures.1 next in absurd (apart c.is_next-taken.result yes w.if-taken.false) in
          subst (λ n. Moving attrs vals c.push_if.new.columns.items more n (l.place + 1)) (sym w.next-is) (subst (λ (cs : List (List Val)). Moving attrs vals cs more l.next (l.place + 1)) (sym kept) (moving_past attrs vals l.columns.items rest more column l.next l.place l.invariant steps other))
    ]
