-- A row of which all places are wanted in turn is wanted whole.
use Rattle.std.proofs.Common.{◌≡◌, ℕ, ◌<◌, List, length, get_or, ap, ◌∙◌, subst}
use Rattle.std.proofs.lemmas.List.{ext_get_or, get_or-map, length-map}
use Rattle.ts_base.specs.declared.values.Val.{Val}
use Rattle.ts_base.specs.declared.values.Val.TheVariants.{Null}
use Rattle.ts_schema.specs.Wants.{value_of, cut_row}

-- where each place up to the row's length stands in turn, the row that is cut is the row
pub all_in_turn : (attrs : List ℕ) (row : List Val) → length attrs ≡ length row → ((k : ℕ) → k < length attrs → get_or attrs k 0 ≡ k) → cut_row attrs row ≡ row
all_in_turn attrs row same turn = ext_get_or Null (cut_row attrs row) row (length-map attrs (value_of row) ∙ same) (λ i below.
    let within : i < length attrs = subst (λ n. i < n) (length-map attrs (value_of row)) below in
    get_or-map (value_of row) attrs i 0 Null within ∙ ap (value_of row) (turn i within))
