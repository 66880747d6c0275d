-- What a row shows, value by value.
use Rattle.std.proofs.Common.{◌≡◌, ◌≤◌, ◌<◌, ◌+◌, ℕ, Bool, true, false, cond, List, [], ◌∷◌, length, drop, get_or, refl, sym, arith, inl, inr, ◌⊎◌, ap, ◌∙◌}
use Rattle.std.specs.Prelude.{min, nat_le}
use Rattle.std.proofs.lemmas.Bool.{leb-true}
use Rattle.std.proofs.lemmas.List.{drop_all, drop_more}
use Rattle.ts_base.specs.declared.values.Val.{Val}
use Rattle.ts_schema.specs.declared.attrs.Attr.{Attr}
use Rattle.ts_schema.specs.Attrs.{agrees, shown_val}

no_value : (attrs : List Attr) (wanted : Attr) → shown_val attrs [] wanted ≡ wanted.fill
no_value [] wanted = refl
no_value (a ∷ attrs) wanted = refl

shown_none : (place : ℕ) (attrs : List Attr) (row : List Val) (wanted : Attr) → length row ≤ place → shown_val attrs (drop place row) wanted ≡ wanted.fill
shown_none place attrs row wanted all = ap (λ vals. shown_val attrs vals wanted) (drop_all place row all) ∙ no_value attrs wanted

-- the next attribute and value, where there are both
next : (place : ℕ) (attrs : List Attr) (row : List Val) (a : Attr) (val : Val) (wanted : Attr) → place < length attrs → place < length row → a ≡ get_or attrs place a
    → shown_val (drop place attrs) (drop place row) wanted ≡ cond (agrees a wanted) (get_or row place val) (shown_val (drop (place + 1) attrs) (drop (place + 1) row) wanted)
next place attrs row a val wanted few short is =
    ap (λ xs. shown_val xs (drop place row) wanted) (drop_more attrs place a few ∙ ap (λ b. b ∷ drop (place + 1) attrs) (sym is))
    ∙ ap (λ xs. shown_val (a ∷ drop (place + 1) attrs) xs wanted) (drop_more row place val short)

pub shown_on : (place : ℕ) (attrs : List Attr) (row : List Val) (a : Attr) (wanted : Attr) (all : Val) → place < length attrs → place < length row → a ≡ get_or attrs place a
    → agrees a wanted ≡ false → shown_val (drop place attrs) (drop place row) wanted ≡ all → shown_val (drop (place + 1) attrs) (drop (place + 1) row) wanted ≡ all
shown_on place attrs row a wanted all few short is other was =
    sym (next place attrs row a all wanted few short is ∙ ap (λ b. cond b (get_or row place all) (shown_val (drop (place + 1) attrs) (drop (place + 1) row) wanted)) other) ∙ was

pub shown_here : (place : ℕ) (attrs : List Attr) (row : List Val) (a : Attr) (val : Val) (wanted : Attr) (all : Val) → place < length attrs → place < length row → a ≡ get_or attrs place a
    → val ≡ get_or row place val → agrees a wanted ≡ true → shown_val (drop place attrs) (drop place row) wanted ≡ all → val ≡ all
shown_here place attrs row a val wanted all few short is val_is same was =
    val_is ∙ sym (next place attrs row a val wanted few short is ∙ ap (λ b. cond b (get_or row place val) (shown_val (drop (place + 1) attrs) (drop (place + 1) row) wanted)) same) ∙ was

-- the shorter list ends there, so one of the two does
one_ends : (m n place : ℕ) → min m n ≤ place → (m ≤ place) ⊎ (n ≤ place)
one_ends m n place over = by_test (nat_le m place) refl
  where
    by_test : (test : Bool) → nat_le m place ≡ test → (m ≤ place) ⊎ (n ≤ place)
    by_test true is = inl (leb-true m place is)
    by_test false is = inr (grind (arith, is, over))

pub shown_end : (place : ℕ) (attrs : List Attr) (row : List Val) (wanted : Attr) (all : Val) → min (length attrs) (length row) ≤ place → shown_val (drop place attrs) (drop place row) wanted ≡ all → wanted.fill ≡ all
shown_end place attrs row wanted all over was = elim (one_ends (length attrs) (length row) place over) [
  | inl ends ↦ sym (ap (λ xs. shown_val xs (drop place row) wanted) (drop_all place attrs ends)) ∙ was
  | inr ends ↦ sym (shown_none place (drop place attrs) row wanted ends) ∙ was
]
