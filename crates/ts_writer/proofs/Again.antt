-- The cells whose coordinates came earlier, and the set of the coordinates so far.
use Rattle.std.proofs.Common.{◌≡◌, ℕ, suc, ◌+◌, ◌<◌, ℤ, Bool, true, false, cond, List, [], ◌∷◌, ◌++◌, length, take, drop, get_or, refl, sym, ap, ◌∙◌, add-one}
use Rattle.std.specs.Prelude.{is_some, Option, Some, None}
use Rattle.std.specs.Ordering.{int_cmp, int_eq}
use Rattle.std.specs.Cmp.Lexicographic.{slice_cmp, lists_ties}
use Rattle.std.specs.BTreeSet.{BTreeSet, contains, Updates}
use Rattle.std.proofs.lemmas.List.{drop_more, take_more}
use Rattle.ts_base.specs.declared.heads.Cell.{Cell}
use Rattle.ts_base.specs.Coords.{coords_eq}
use Rattle.ts_model.specs.declared.answers.Refusal.{Refusal}
use Rattle.ts_model.specs.declared.answers.Refusal.TheVariants as refusal
use Rattle.ts_model.specs.Deeds.{row_at}
use Rattle.ts_model.specs.Commands.{again_in}

-- a coordinate is that of one cell more where it was that of one before, or is that cell's
with_cell : (q : List ℤ) (before : List Cell) (cell : Cell) → is_some (row_at q (before ++ cell ∷ [])) ≡ cond (coords_eq cell.coords q) true (is_some (row_at q before))
with_cell q [] cell = by (coords_eq cell.coords q)
  where
    by : (b : Bool) → is_some (cond b (Some cell.row) None) ≡ cond b true false
    by true = refl
    by false = refl
with_cell q (x ∷ before) cell = by (coords_eq x.coords q) (coords_eq cell.coords q) (with_cell q before cell)
  where
    by : (b d : Bool) → is_some (row_at q (before ++ cell ∷ [])) ≡ cond d true (is_some (row_at q before)) → is_some (cond b (Some x.row) (row_at q (before ++ cell ∷ []))) ≡ cond d true (is_some (cond b (Some x.row) (row_at q before)))
    by true true e = refl
    by true false e = refl
    by false d e = e

-- the set of the coordinates so far, with those of one cell more
pub seen_more : (s n : BTreeSet (List ℤ)) (before : List Cell) (cell : Cell) → Updates (slice_cmp int_cmp) s n cell.coords true → ((q : List ℤ) → contains (slice_cmp int_cmp) s q ≡ is_some (row_at q before))
    → (q : List ℤ) → contains (slice_cmp int_cmp) n q ≡ is_some (row_at q (before ++ cell ∷ []))
seen_more s n before cell updates seen q =
    updates.0 q ∙ ap (λ b. cond b true (contains (slice_cmp int_cmp) s q)) (sym (lists_ties {E = int_eq} int_cmp (λ x y. refl) cell.coords q))
    ∙ ap (cond (coords_eq cell.coords q) true) (seen q) ∙ sym (with_cell q before cell)

-- a cell that did not come earlier
again_more : (before : List Cell) (place : ℕ) (cell : Cell) (rest : List Cell) (whole : Option Refusal) → is_some (row_at cell.coords before) ≡ false → again_in before place (cell ∷ rest) ≡ whole → again_in (before ++ cell ∷ []) (place + 1) rest ≡ whole
again_more before place cell rest whole new was =
    ap (λ n. again_in (before ++ cell ∷ []) n rest) (add-one place)
    ∙ ap (λ b. cond b (Some (refusal.DuplicateCell place)) (again_in (before ++ cell ∷ []) (suc place) rest)) (sym new) ∙ was

-- the cells up to the next one
pub take_next : (cells : List Cell) (place : ℕ) (cell : Cell) → place < length cells → cell ≡ get_or cells place cell → take (place + 1) cells ≡ take place cells ++ cell ∷ []
take_next cells place cell lt is = take_more cells place cell lt ∙ ap (λ x. take place cells ++ x ∷ []) (sym is)

-- the next cell of a list, where it did not come earlier
pub again_next : (cells : List Cell) (place : ℕ) (cell : Cell) (whole : Option Refusal) → place < length cells → cell ≡ get_or cells place cell → is_some (row_at cell.coords (take place cells)) ≡ false
    → again_in (take place cells) place (drop place cells) ≡ whole → again_in (take (place + 1) cells) (place + 1) (drop (place + 1) cells) ≡ whole
again_next cells place cell whole lt is new was =
    let rest : drop place cells ≡ cell ∷ drop (place + 1) cells = drop_more cells place cell lt ∙ ap (λ x. x ∷ drop (place + 1) cells) (sym is) in
    ap (λ before. again_in before (place + 1) (drop (place + 1) cells)) (take_next cells place cell lt is)
    ∙ again_more (take place cells) place cell (drop (place + 1) cells) whole new (ap (again_in (take place cells) place) (sym rest) ∙ was)
