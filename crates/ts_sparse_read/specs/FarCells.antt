-- A tile may stand behind any earlier one, also where tiles between are left out.
use Rattle.std.proofs.Common.{◌≡◌, ℕ, zero, suc, ◌<◌, Bool, true, false, ◌&&◌, ◌||◌, nat_lt, List, [], ◌∷◌, length, map, get_or, Option, Some, None, refl, sym, ap, ◌∙◌, subst, arith}
use Rattle.std.specs.Prelude.{IsTrue, not}
use Rattle.std.specs.Ordering.{is_gt, ordering_reverse}
use Rattle.std.specs.Cmp.{IsTotalOrder}
use Rattle.std.specs.Cmp.Lexicographic.{lists_equiv}
use Rattle.std.specs.declared.cmp.Ordering.{Ordering}
use Rattle.std.specs.declared.cmp.Ordering.TheVariants.{Less, Equal, Greater}
use Rattle.std.proofs.lemmas.Bool.{true≢false, and_parts, and_from, or_left, not_from_false, false_from_ne_true, ltb-true, lt-ltb}
use Rattle.std.proofs.lemmas.Cmp.{int_eq_equiv}
use Rattle.ts_base.specs.Coords.{coords_eq}
use Rattle.ts_order.specs.Orders.{global_cmp}
use Rattle.ts_order.proofs.OrderLemmas.{global_total, global_cmp-exact}
use Rattle.ts_schema.specs.declared.attrs.Attr.{Attr}
use Rattle.ts_schema.specs.declared.frames.Frame.{Frame}
use Rattle.ts_plain.specs.declared.stored.StoredHead.{StoredHead}
use Rattle.ts_plain.specs.declared.stored.StoredCell.{StoredCell}
use Rattle.ts_plain.specs.Rules.{origin_rises}
use Rattle.ts_model.proofs.Newest.{coords_same}
use Rattle.ts_sparse.specs.Cuts.{MayFollow, Rise, last_or, TilesRise}
use Rattle.ts_sparse_read.specs.Blanks.{blanked}

-- where a third origin is above a first one by a second between them
mixed : (t d u v w : Bool) → (not d && u) ≡ true → (t || (not d && v)) ≡ true → (u ≡ true → v ≡ true → w ≡ true) → (t || (not d && w)) ≡ true
mixed true d u v w p q r = refl
mixed false true u v w p q r = absurd (true≢false (sym p))
mixed false false true true w p q r = r refl refl
mixed false false true false w p q r = absurd (true≢false (sym q))
mixed false false false v w p q r = absurd (true≢false (sym p))

-- one of two tests holds, and the first does not
other_holds : (s t : Bool) → s ≡ true → (not s || t) ≡ true → t ≡ true
other_holds true t e h = h
other_holds false t e h = absurd (true≢false (sym e))

module _ (frame : Frame) (head : StoredHead) where
  -- the second cell may stand behind the first
  abbrev Follows : StoredCell → StoredCell → Type 0
  Follows a b = MayFollow frame head (Some a) b

  -- how two cells stand in global order
  abbrev cmp : StoredCell → StoredCell → Ordering
  cmp a b = global_cmp frame.domain frame.tile frame.cell a.coords b.coords

  total : IsTotalOrder (global_cmp frame.domain frame.tile frame.cell)
  total = global_total frame.domain frame.tile frame.cell

  not_itself : (a : StoredCell) → cmp a a ≡ Less → ⊥
  not_itself a less =
      let turned : Less ≡ Greater = sym less ∙ total.antisymm a.coords a.coords ∙ ap ordering_reverse less in
      cc

  known_of : (before : Option StoredCell) (b : StoredCell) → MayFollow frame head before b → (nat_lt b.origin (length head.origins) ≡ true) × (origin_rises frame.dense before b.coords b.origin ≡ true)
  known_of before b m = and_parts (nat_lt b.origin (length head.origins)) (origin_rises frame.dense before b.coords b.origin) m.known

  -- a cell strictly before another in global order may come before it
  apart : (a c : StoredCell) → nat_lt c.origin (length head.origins) ≡ true → cmp a c ≡ Less → Follows a c
  apart a c known less = record {
    rises = ap (λ o. not (is_gt o)) less;
    known = and_from (nat_lt c.origin (length head.origins)) (origin_rises frame.dense (Some a) c.coords c.origin) known
        (or_left (not (coords_eq a.coords c.coords)) (not frame.dense && nat_lt a.origin c.origin) (not_from_false (coords_eq a.coords c.coords) (false_from_ne_true (coords_eq a.coords c.coords) unlike)));
  }
    where
      unlike : coords_eq a.coords c.coords ≡ true → ⊥
      unlike same = not_itself a (ap (global_cmp frame.domain frame.tile frame.cell a.coords) (coords_same a.coords c.coords same) ∙ less)

  -- one at the same place comes before what the other comes before
  beside : (a b c : StoredCell) → coords_eq a.coords b.coords ≡ true → Follows a b → Follows b c → Follows a c
  beside a b c same first second =
      let e = coords_same a.coords b.coords same in
      let one = other_holds (coords_eq a.coords b.coords) (not frame.dense && nat_lt a.origin b.origin) same (known_of (Some a) b first).1 in
      let two : (not (coords_eq a.coords c.coords) || (not frame.dense && nat_lt b.origin c.origin)) ≡ true =
      subst (λ z. (not (coords_eq z c.coords) || (not frame.dense && nat_lt b.origin c.origin)) ≡ true) (sym e) (known_of (Some b) c second).1 in
      record {
        rises = subst (λ z. IsTrue (not (is_gt (global_cmp frame.domain frame.tile frame.cell z c.coords)))) (sym e) second.rises;
        known = and_from (nat_lt c.origin (length head.origins)) (origin_rises frame.dense (Some a) c.coords c.origin) (known_of (Some b) c second).0
            (mixed (not (coords_eq a.coords c.coords)) frame.dense (nat_lt a.origin b.origin) (nat_lt b.origin c.origin) (nat_lt a.origin c.origin) one two
            (λ u v. let low = ltb-true a.origin b.origin u in let high = ltb-true b.origin c.origin v in lt-ltb a.origin c.origin (omega (arith, low, high))));
      }

  -- what may follow a cell that may follow another may follow that one
  follow_far : (a b c : StoredCell) → Follows a b → Follows b c → Follows a c
  follow_far a b c first second = by (cmp a b) refl first.rises
    where
      room : nat_lt c.origin (length head.origins) ≡ true
      room = (known_of (Some b) c second).0

      onward : cmp a b ≡ Less → (o : Ordering) → cmp b c ≡ o → not (is_gt o) ≡ true → cmp a c ≡ Less
      onward e Less f h = total.trans a.coords b.coords c.coords e f
      onward e Equal f h = subst (λ z. global_cmp frame.domain frame.tile frame.cell a.coords z ≡ Less) (global_cmp-exact frame.domain frame.tile frame.cell b.coords c.coords f) e
      onward e Greater f h = absurd (true≢false (sym h))

      by : (o : Ordering) → cmp a b ≡ o → not (is_gt o) ≡ true → Follows a c
      by Less e h = apart a c room (onward e (cmp b c) refl second.rises)
      by Equal e h = beside a b c (subst (λ z. coords_eq a.coords z ≡ true) (global_cmp-exact frame.domain frame.tile frame.cell a.coords b.coords e) ((lists_equiv int_eq_equiv).refl a.coords)) first second
      by Greater e h = absurd (true≢false (sym h))

  follow_past : (before : Option StoredCell) (b c : StoredCell) → MayFollow frame head before b → Follows b c → MayFollow frame head before c
  follow_past None b c first second = record { rises = refl; known = and_from (nat_lt c.origin (length head.origins)) true (known_of (Some b) c second).0 refl }
  follow_past (Some a) b c first second = follow_far a b c first second

  rise_past : (before : Option StoredCell) (b : StoredCell) (cells : List StoredCell) → MayFollow frame head before b → Rise frame head (Some b) cells → Rise frame head before cells
  rise_past before b [] may rise = tt
  rise_past before b (c ∷ cells) may rise = (follow_past before b c may rise.0, rise.1)

  past_tile : (before : Option StoredCell) (tile cells : List StoredCell) → Rise frame head before tile → Rise frame head (last_or before tile) cells → Rise frame head before cells
  past_tile before [] cells rise next = next
  past_tile before (c ∷ tile) cells rise next = rise_past before c cells rise.0 (past_tile (Some c) tile cells rise.1 next)

  -- each tile rises behind what stands before the first one
  pub past_tiles : (before : Option StoredCell) (tiles : List (List StoredCell)) (j : ℕ) → TilesRise frame head before tiles → j < length tiles → Rise frame head before (get_or tiles j [])
  past_tiles before [] j rise within = absurd (omega (arith, within))
  past_tiles before (t ∷ tiles) zero rise within = rise.0
  past_tiles before (t ∷ tiles) (suc j) rise within = past_tile before t (get_or tiles j []) rise.0 (past_tiles (last_or before t) tiles j rise.1 (omega (arith, within)))

  behind_first : (before other : Option StoredCell) (t : List StoredCell) (tiles : List (List StoredCell)) (j : ℕ) → TilesRise frame head (last_or before t) tiles → Rise frame head other (get_or tiles j []) → j < length tiles
      → Rise frame head (last_or other t) (get_or tiles j [])
  behind_first before other [] tiles j rise given within = given
  behind_first before other (c ∷ cells) tiles j rise given within = past_tiles (last_or (Some c) cells) tiles j rise within

  -- each tile rises behind the last cell of each earlier one, and where that has none behind what it rises behind
  pub far_behind : (before other : Option StoredCell) (tiles : List (List StoredCell)) (i j : ℕ) → TilesRise frame head before tiles → Rise frame head other (get_or tiles j []) → i < j → j < length tiles
      → Rise frame head (last_or other (get_or tiles i [])) (get_or tiles j [])
  far_behind before other [] i j rise given below within = absurd (omega (arith, within))
  far_behind before other (t ∷ tiles) zero zero rise given below within = absurd (omega (arith, below))
  far_behind before other (t ∷ tiles) zero (suc j) rise given below within = behind_first before other t tiles j rise.1 given (omega (arith, within))
  far_behind before other (t ∷ tiles) (suc i) zero rise given below within = absurd (omega (arith, below))
  far_behind before other (t ∷ tiles) (suc i) (suc j) rise given below within = far_behind (last_or before t) other tiles i j rise.1 given (omega (arith, below)) (omega (arith, within))

  module _ (attrs : List Attr) (places : List ℕ) where
    -- the order looks at coordinates and origins alone
    blank_one : (x : StoredCell) (ys : List StoredCell) → Rise frame head (Some x) ys → Rise frame head (Some (blanked attrs places x)) ys
    blank_one x [] rise = tt
    blank_one x (y ∷ ys) rise = let may = rise.0 in (record { rises = may.rises; known = may.known }, rise.1)

    blank_last : (x : StoredCell) (xs ys : List StoredCell) → Rise frame head (last_or (Some x) xs) ys → Rise frame head (last_or (Some (blanked attrs places x)) (map (blanked attrs places) xs)) ys
    blank_last x [] ys rise = blank_one x ys rise
    blank_last x (z ∷ xs) ys rise = blank_last z xs ys rise

    -- so cells rise behind others of which some attributes are read
    pub blank_behind : (other : Option StoredCell) (xs ys : List StoredCell) → Rise frame head (last_or other xs) ys → Rise frame head (last_or other (map (blanked attrs places) xs)) ys
    blank_behind other [] ys rise = rise
    blank_behind other (x ∷ xs) ys rise = blank_last x xs ys rise
