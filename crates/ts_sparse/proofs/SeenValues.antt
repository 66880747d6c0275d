-- What a version has at a place, or the default where it has nothing there.
use Rattle.std.proofs.Common.{◌≡◌, ℕ, ℤ, List, get_or, Option, sym, ap, ◌∙◌}
use Rattle.std.specs.List.{slice_get}
use Rattle.std.specs.Option.{unwrap_or, option_map}
use Rattle.std.proofs.lemmas.Option.{unwrap_or-slice_get}
use Rattle.ts_base.specs.declared.values.Val.{Val}
use Rattle.ts_base.specs.declared.values.Val.TheVariants.{Null}
use Rattle.ts_table.specs.declared.column.Seen.{Seen}
use Rattle.ts_table.specs.Columns.{val_seen}

pub value_there : (row : List Val) (i : ℕ) (found : Option Seen) → option_map val_seen found ≡ slice_get row i → get_or row i Null ≡ unwrap_or (option_map val_seen found) Null
value_there row i found is = sym (unwrap_or-slice_get row i Null) ∙ ap (λ o. unwrap_or o Null) (sym is)

pub coord_there : (coords : List ℤ) (i : ℕ) (d : ℤ) (found : Option ℤ) → found ≡ slice_get coords i → get_or coords i d ≡ unwrap_or found d
coord_there coords i d found is = sym (unwrap_or-slice_get coords i d) ∙ ap (λ o. unwrap_or o d) (sym is)
