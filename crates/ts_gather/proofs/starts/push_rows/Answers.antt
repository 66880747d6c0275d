-- One place more.
use Rattle.std.proofs.Common.{arith, ◌+◌, ◌*◌, ◌++◌, [], ◌∷◌, map, append_assoc, sym, ap, ◌∙◌}
use Rattle.std.specs.List.{range_with_len}
use Rattle.std.proofs.lemmas.List.FromFn.{map-range_with_len_more}
use Rattle.ts_gather.proofs.starts.push_rows.Goals as goal

pub loop-row-preserved : goal.loop-row-preserved
loop-row-preserved c =
    let a = c.args in
    let row = c.loop-row.row in
    let old = c.args.starts.now.items in
    c.in_ok-push.ensures.items ∙ ap (λ xs. xs ++ (a.first + row * a.apart) ∷ []) c.loop-row.invariant
    ∙ append_assoc old (map (λ r. a.first + r * a.apart) (range_with_len 0 row)) ((a.first + row * a.apart) ∷ [])
    ∙ ap (λ ys. old ++ ys) (sym (map-range_with_len_more (λ r. a.first + r * a.apart) 0 row row (omega arith)))
