-- The text of the values of a row, from one on.
use Rattle.std.proofs.Common.{◌≡◌, ℕ, ◌+◌, ◌<◌, List, [], ◌∷◌, ◌++◌, length, get_or, drop, refl, sym, ap, ◌∙◌, append_assoc, append-nil, Bool, false, codes, if◌then◌else◌, drop-cons, add-one, suc, zero}
use Rattle.std.specs.Prelude.{slice_get, Some, None}
use Rattle.std.proofs.lemmas.Option.{slice_get_within, get_or_from_slice_get}
use Rattle.ts_base.specs.declared.values.Val.{Val}
use Rattle.ts_base.specs.declared.values.ValType.{ValType}
use Rattle.ts_query.specs.Rows.{vals_text, val_text}

-- the value at a place and what follows it
vals_next : (first : Bool) (types : List ValType) (row : List Val) (i : ℕ) (d : ValType) (v : Val) → i < length types → slice_get row i ≡ Some v
    → vals_text first (drop i types) (drop i row) ≡ (if first then [] else codes "\t") ++ val_text (get_or types i d) v ++ vals_text false (drop (i + 1) types) (drop (i + 1) row)
vals_next first types row i d v within is =
    let inside : i < length row = slice_get_within row i v is in
    rw (add-one, drop-cons types i d, drop-cons row i v, get_or_from_slice_get row i v v is) refl

no_values : (first : Bool) (types : List ValType) → vals_text first types [] ≡ []
no_values first [] = refl
no_values first (ty ∷ types) = refl

vals_end : (first : Bool) (types : List ValType) (row : List Val) (i : ℕ) → slice_get row i ≡ None → vals_text first (drop i types) (drop i row) ≡ []
vals_end first [] row zero is = refl
vals_end first [] row (suc i) is = refl
vals_end first (ty ∷ types) [] zero is = refl
vals_end first (ty ∷ types) [] (suc i) is = no_values first (drop i types)
vals_end first (ty ∷ types) (v ∷ row) zero is = cc
vals_end first (ty ∷ types) (v ∷ row) (suc i) is = vals_end first types row i is

-- bytes to which the values up to a place are added, and then the value there
pub one_more : (bytes more all : List ℕ) (first : Bool) (types : List ValType) (row : List Val) (i : ℕ) (d : ValType) (v : Val) → i < length types → slice_get row i ≡ Some v
    → bytes ++ vals_text first (drop i types) (drop i row) ≡ all
    → more ≡ bytes ++ ((if first then [] else codes "\t") ++ val_text (get_or types i d) v)
    → more ++ vals_text false (drop (i + 1) types) (drop (i + 1) row) ≡ all
one_more bytes more all first types row i d v within is so_far next =
    rw (next, append_assoc) (ap (λ rest. bytes ++ rest) (sym (vals_next first types row i d v within is)) ∙ so_far)

-- bytes to which all values are added that the row has
pub no_more : (bytes all : List ℕ) (first : Bool) (types : List ValType) (row : List Val) (i : ℕ) → slice_get row i ≡ None → bytes ++ vals_text first (drop i types) (drop i row) ≡ all → bytes ≡ all
no_more bytes all first types row i is so_far = sym (append-nil bytes) ∙ (ap (λ rest. bytes ++ rest) (sym (vals_end first types row i is)) ∙ so_far)
