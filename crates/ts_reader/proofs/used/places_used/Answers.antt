-- One attribute more is looked at.
use Rattle.std.proofs.Common.{◌≡◌, ◌+◌, [], ◌∷◌, ◌++◌, cond, suc, drop, Some, sym, ap, ◌∙◌, arith, append_assoc}
use Rattle.std.specs.Prelude.{slice_get}
use Rattle.ts_model.specs.Used.{places_used, uses_name}
use Rattle.ts_reader.proofs.UsedNames.{places_on}
use Rattle.ts_reader.proofs.used.places_used.Goals as goal

pub loop-place-preserved : goal.loop-place-preserved
loop-place-preserved c =
    let r = c.args.reading.now in
    let attrs = c.args.attrs.now in
    let places = c.loop-place.places in
    let place = c.loop-place.place in
    let a = c.at-attr.result.now in
    let at : slice_get attrs place ≡ Some a = ap (slice_get attrs) (sym c.from.ensures) ∙ c.at-attr.ensures in
    let next : suc place ≡ place + 1 = omega arith in
    let behind = places_used r (place + 1) (drop (place + 1) attrs) in
    ap (λ ps. ps ++ behind) c.in_ok-add_where.ensures
    ∙ append_assoc places (cond c.uses_name.result (place ∷ []) []) behind
    ∙ ap (λ u. places ++ (cond u (place ∷ []) [] ++ behind)) c.uses_name.ensures
    ∙ ap (λ n. places ++ (cond (uses_name r a.name) (place ∷ []) [] ++ places_used r n (drop (place + 1) attrs))) (sym next)
    ∙ ap (λ l. places ++ l) (sym (places_on r attrs place a at place))
    ∙ c.loop-place.invariant
