-- Whether the values of a slot are those of a hole, attribute after attribute.
use Rattle.std.proofs.Common.{◌≡◌, ℕ, suc, ◌+◌, ◌<◌, ◌≤◌, Bool, true, false, not, ◌&&◌, ◌||◌, List, [], ◌∷◌, length, get_or, drop, refl, sym, ap, ◌∙◌, arith}
use Rattle.std.specs.Prelude.{min}
use Rattle.std.proofs.lemmas.List.{drop_more, get_or-map, length-map, length-drop}
use Rattle.ts_base.specs.declared.values.Val.{Val}
use Rattle.ts_base.specs.declared.values.Val.TheVariants.{Null}
use Rattle.ts_schema.specs.declared.attrs.Attr.{Attr}
use Rattle.ts_sparse_read.specs.TileReads.{is_among}
use Rattle.ts_dense_read.specs.SlotReads.{is_of_hole, are_of_hole}
use Rattle.ts_dense_read.specs.SpaceTakes.{row_there}

module _ (places : List ℕ) (attrs : List Attr) (vals : List (List Val)) (place : ℕ) where
  -- the attributes from a place on say of all
  abbrev pub Holing : ℕ → Type 0
  Holing k = are_of_hole places k (drop k attrs) (drop k (row_there vals place)) ≡ are_of_hole places 0 attrs (row_there vals place)

  -- what an attribute says
  abbrev may_be : ℕ → Attr → List Val → Bool
  may_be k a column = not (is_among places k) || is_of_hole a (get_or column place Null)

  split : (k : ℕ) (a : Attr) (column : List Val) → k < length attrs → k < length vals → a ≡ get_or attrs k a → column ≡ get_or vals k column
      → are_of_hole places k (drop k attrs) (drop k (row_there vals place)) ≡ (may_be k a column && are_of_hole places (k + 1) (drop (k + 1) attrs) (drop (k + 1) (row_there vals place)))
  split k a column here there is was =
      let row = row_there vals place in
      let long : k < length row = rw (length-map vals (λ (c : List Val). get_or c place Null)) there in
      let next : suc k ≡ k + 1 = omega arith in
      let left : drop k attrs ≡ a ∷ drop (k + 1) attrs = drop_more attrs k a here ∙ ap (λ (b : Attr). b ∷ drop (k + 1) attrs) (sym is) in
      let value : get_or row k Null ≡ get_or column place Null = get_or-map (λ (c : List Val). get_or c place Null) vals k column Null there ∙ ap (λ (c : List Val). get_or c place Null) (sym was) in
      let rest : drop k row ≡ get_or column place Null ∷ drop (k + 1) row = drop_more row k Null long ∙ ap (λ (v : Val). v ∷ drop (k + 1) row) value in
      ap (λ (bs : List Attr). are_of_hole places k bs (drop k row)) left
      ∙ ap (are_of_hole places k (a ∷ drop (k + 1) attrs)) rest
      ∙ ap (λ n. may_be k a column && are_of_hole places n (drop (k + 1) attrs) (drop (k + 1) row)) next

  -- one attribute more
  pub hole_on : (k : ℕ) (a : Attr) (column : List Val) → Holing k → k < length attrs → k < length vals → a ≡ get_or attrs k a → column ≡ get_or vals k column → may_be k a column ≡ true → Holing (k + 1)
  hole_on k a column so here there is was fine =
      ap (λ b. b && are_of_hole places (k + 1) (drop (k + 1) attrs) (drop (k + 1) (row_there vals place))) (sym fine) ∙ sym (split k a column here there is was) ∙ so

  -- an attribute that has another value says that it is no hole
  pub hole_not : (k : ℕ) (a : Attr) (column : List Val) → Holing k → k < length attrs → k < length vals → a ≡ get_or attrs k a → column ≡ get_or vals k column → may_be k a column ≡ false
      → are_of_hole places 0 attrs (row_there vals place) ≡ false
  hole_not k a column so here there is was other =
      sym so ∙ split k a column here there is was ∙ ap (λ b. b && are_of_hole places (k + 1) (drop (k + 1) attrs) (drop (k + 1) (row_there vals place))) other

  ended : (k : ℕ) (bs : List Attr) (row : List Val) → min (length bs) (length row) ≤ 0 → are_of_hole places k bs row ≡ true
  ended k [] row none = refl
  ended k (b ∷ bs) [] none = refl
  ended k (b ∷ bs) (v ∷ row) none = absurd (omega (arith, none))

  -- behind the last attribute it is one
  pub hole_end : (k : ℕ) → Holing k → min (length attrs) (length vals) ≤ k → are_of_hole places 0 attrs (row_there vals place) ≡ true
  hole_end k so over =
      let row = row_there vals place in
      let long : length row ≡ length vals = length-map vals (λ (c : List Val). get_or c place Null) in
      sym so ∙ ended k (drop k attrs) (drop k row) (omega (arith, over, long, length-drop k attrs, length-drop k row))

pub ruleset hole_steps = (hole_on, hole_not, hole_end)
