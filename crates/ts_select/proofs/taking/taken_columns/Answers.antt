-- One field more.
use Rattle.std.proofs.Common.{arith, rules, ℕ, List, ◌+◌, ◌≡◌, ◌<◌, ◌≤◌, ◌++◌, [], ◌∷◌, length, get_or, subst}
use Rattle.std.proofs.lemmas.List.{take_rest}
use Rattle.ts_select.proofs.Takings.{taking_more, taking_past}
use Rattle.ts_select.proofs.taking.taken_columns.Goals.{then-field-all+in_ok-taken+in_ok-push, else-field-all}
use Rattle.ts_select.proofs.taking.taken_columns.Goals as goal

pub loop-place-preserved : goal.loop-place-preserved
loop-place-preserved c =
    let fields = c.args.fields.now in
    let all = c.args.all.now in
    let loop = c.loop-place in
    let within : loop.place < length fields = omega arith in
    elim c.if-field-all.branch [
      | then-field-all+in_ok-taken+in_ok-push w ↦
          let column = w.in_ok-taken.field-0 in
          let below : get_or fields loop.place 0 < length loop.all = omega arith in
          let push : c.if-field-all.columns.items ≡ loop.columns.items ++ column ∷ [] = rw w.columns-is w.in_ok-push.ensures.items in
          let same : length w.taken.new.all ≡ length loop.all = search rules in
          let keeps = subst (λ (later : List ℕ). (k : ℕ) → k < length later → get_or w.taken.new.all (get_or later k 0) [] ≡ get_or loop.all (get_or later k 0) []) (take_rest fields (loop.place + 1)) w.taken.ensures.kept in
          let more = taking_more fields all loop.all loop.columns.items loop.place loop.invariant within column w.taken.new.all c.if-field-all.columns.items below w.in_ok-taken.ensures.column push same keeps in
          rw w.all-is more
      | else-field-all w ↦
          let past : length loop.all ≤ get_or fields loop.place 0 = omega arith in
          rw (w.all-is, w.columns-is) (taking_past fields all loop.all loop.columns.items loop.place loop.invariant within past)
    ]
