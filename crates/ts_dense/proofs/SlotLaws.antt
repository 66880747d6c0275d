-- The slots of a dense fragment: where they stand, and that they are its cells and holes.
use Rattle.std.proofs.Common.{◌≡◌, suc, ◌<◌, ◌^◌, ℤ, Bool, true, false, ◌&&◌, ◌||◌, nat_lt, cond, List, [], ◌∷◌, ◌++◌, length, map, filter, Some, refl, sym, ap, subst, ◌∙◌, ◌⊎◌, inl, inr, arith}
use Rattle.std.specs.Prelude.{IsTrue, not}
use Rattle.std.specs.Bool.{Decides}
use Rattle.std.specs.List.{All, AllByRecursion, Contains}
use Rattle.std.specs.Cmp.{IsTotalOrder}
use Rattle.std.specs.Ordering.{is_gt}
use Rattle.std.specs.declared.cmp.Ordering.{Ordering}
use Rattle.std.specs.declared.cmp.Ordering.TheVariants.{Less, Equal, Greater}
use Rattle.std.proofs.lemmas.Bool.{true≢false, cond-true, cond-false, and_parts, false_from_ne_true, ltb-true, ne_eqb, not-true}
use Rattle.std.proofs.lemmas.Bool.Decides.{Decides-int_eq}
use Rattle.std.proofs.lemmas.Cmp.{tied_itself}
use Rattle.std.proofs.lemmas.Slice.Eq.{slice_eq-Decides}
use Rattle.std.proofs.lemmas.List.{length-map}
use Rattle.std.proofs.lemmas.List.Elements.{All-nil, All-cons, All-head, All-tail, All-weaker, Contains-append_right}
use Rattle.std.proofs.lemmas.List.Sums.{length-filter, count_by-le-length}
use Rattle.ts_base.specs.declared.keys.FragKey.{FragKey}
use Rattle.ts_base.specs.Coords.{coords_eq}
use Rattle.ts_domain.specs.Boxes.{is_in_box}
use Rattle.ts_domain.proofs.DomainLemmas.{All-IsDomain}
use Rattle.ts_order.specs.Orders.{global_cmp}
use Rattle.ts_order.proofs.OrderLemmas.{global_total, global_cmp-exact}
use Rattle.ts_order.proofs.InOrder.{InOrder, IsAmong, NoneTwice, all_among}
use Rattle.ts_wire.specs.Exact.{InTurn}
use Rattle.ts_schema.specs.declared.attrs.Attr.{Attr}
use Rattle.ts_schema.specs.declared.frames.Frame.{Frame}
use Rattle.ts_plain.specs.declared.stored.StoredHead.{StoredHead}
use Rattle.ts_plain.specs.declared.stored.StoredCell.{StoredCell}
use Rattle.ts_plain.specs.declared.stored.StoredPiece.{StoredPiece}
use Rattle.ts_plain.specs.Rules.{last_of, coords_rise, origin_rises, volume}
use Rattle.ts_plain.specs.Plain.{FitsCell}
use Rattle.ts_plain.specs.Writes.{box_of}
use Rattle.ts_plain.proofs.WrittenPieces.{last_pushed}
use Rattle.ts_dense.specs.Slots.{coords_over, no_origin, hole, is_hole, slots_from, slots_of, cells_in}
use Rattle.ts_dense.specs.Dense.{FitsDense}
use Rattle.ts_dense.proofs.HullOrder.{on_hull, coords_in_turn, coords_covered, coords_many}

-- ---- one slot more

-- the test of coordinates tells which are equal
pub coords_decide : (c d : List ℤ) → Decides (coords_eq c d) (c ≡ d)
coords_decide c d = slice_eq-Decides Decides-int_eq c d (coords_eq c d) refl

-- a cell at these coordinates takes the slot
pub slots_hit : (at : List ℤ) (coords : List (List ℤ)) (c : StoredCell) (cells : List StoredCell) → c.coords ≡ at → slots_from (at ∷ coords) (c ∷ cells) ≡ c ∷ slots_from coords cells
slots_hit at coords c cells same = cond-true (coords_eq c.coords at) (c ∷ slots_from coords cells) (hole at ∷ slots_from coords (c ∷ cells)) ((coords_decide c.coords at).1 same)

-- and one at others leaves a hole
pub slots_miss : (at : List ℤ) (coords : List (List ℤ)) (c : StoredCell) (cells : List StoredCell) → (c.coords ≡ at → ⊥) → slots_from (at ∷ coords) (c ∷ cells) ≡ hole at ∷ slots_from coords (c ∷ cells)
slots_miss at coords c cells apart =
    cond-false (coords_eq c.coords at) (c ∷ slots_from coords cells) (hole at ∷ slots_from coords (c ∷ cells)) (false_from_ne_true (coords_eq c.coords at) (λ same. apart ((coords_decide c.coords at).0 same)))

-- it is at these coordinates or at others
at_or_not : (c d : List ℤ) → (c ≡ d) ⊎ (c ≡ d → ⊥)
at_or_not c d = by (coords_eq c d) refl
  where
    by : (b : Bool) → coords_eq c d ≡ b → (c ≡ d) ⊎ (c ≡ d → ⊥)
    by true e = inl ((coords_decide c d).0 e)
    by false e = inr (λ same. true≢false (sym ((coords_decide c d).1 same) ∙ e))

-- ---- where the slots stand

-- the coordinates of the slots are those that they were made for
pub slots_at : (coords : List (List ℤ)) (cells : List StoredCell) → map (λ (c : StoredCell). c.coords) (slots_from coords cells) ≡ coords
slots_at [] cells = refl
slots_at (at ∷ coords) [] = ap (λ cs. at ∷ cs) (slots_at coords [])
slots_at (at ∷ coords) (c ∷ cells) = by (slots_at coords cells) (slots_at coords (c ∷ cells)) (at_or_not c.coords at)
  where
    by : map (λ (c : StoredCell). c.coords) (slots_from coords cells) ≡ coords → map (λ (c : StoredCell). c.coords) (slots_from coords (c ∷ cells)) ≡ coords → (c.coords ≡ at) ⊎ (c.coords ≡ at → ⊥)
        → map (λ (c : StoredCell). c.coords) (slots_from (at ∷ coords) (c ∷ cells)) ≡ at ∷ coords
    by less more (inl same) =
        ap (map (λ (c : StoredCell). c.coords)) (slots_hit at coords c cells same) ∙ ap (λ x. x ∷ map (λ (c : StoredCell). c.coords) (slots_from coords cells)) same ∙ ap (λ cs. at ∷ cs) less
    by less more (inr apart) = ap (map (λ (c : StoredCell). c.coords)) (slots_miss at coords c cells apart) ∙ ap (λ cs. at ∷ cs) more

-- there are as many
pub slots_many : (coords : List (List ℤ)) (cells : List StoredCell) → length (slots_from coords cells) ≡ length coords
slots_many coords cells = sym (length-map (slots_from coords cells) (λ (c : StoredCell). c.coords)) ∙ ap length (slots_at coords cells)

-- ---- what each slot is

-- a hole at its coordinates, or one of these cells
abbrev pub IsSlotOf : List StoredCell → StoredCell → Type 0
IsSlotOf cells slot = (slot ≡ hole slot.coords) ⊎ Contains cells slot

one_more : (c slot : StoredCell) (cells : List StoredCell) → IsSlotOf cells slot → IsSlotOf (c ∷ cells) slot
one_more c slot cells (inl e) = inl e
one_more c slot cells (inr is) = inr (Contains-append_right (c ∷ []) cells slot is)

pub each_slot : (coords : List (List ℤ)) (cells : List StoredCell) → All (IsSlotOf cells) (slots_from coords cells)
each_slot [] cells = All-nil (IsSlotOf cells)
each_slot (at ∷ coords) [] = All-cons (IsSlotOf []) (hole at) (slots_from coords []) (inl refl) (each_slot coords [])
each_slot (at ∷ coords) (c ∷ cells) = by (each_slot coords cells) (each_slot coords (c ∷ cells)) (at_or_not c.coords at)
  where
    first : Contains (c ∷ cells) c
    first = (0, omega arith, refl)

    by : All (IsSlotOf cells) (slots_from coords cells) → All (IsSlotOf (c ∷ cells)) (slots_from coords (c ∷ cells)) → (c.coords ≡ at) ⊎ (c.coords ≡ at → ⊥) → All (IsSlotOf (c ∷ cells)) (slots_from (at ∷ coords) (c ∷ cells))
    by less more (inl same) =
        subst (All (IsSlotOf (c ∷ cells))) (sym (slots_hit at coords c cells same))
        (All-cons (IsSlotOf (c ∷ cells)) c (slots_from coords cells) (inr first) (All-weaker (IsSlotOf cells) (IsSlotOf (c ∷ cells)) (λ slot is. one_more c slot cells is) (slots_from coords cells) less))
    by less more (inr apart) =
        subst (All (IsSlotOf (c ∷ cells))) (sym (slots_miss at coords c cells apart)) (All-cons (IsSlotOf (c ∷ cells)) (hole at) (slots_from coords (c ∷ cells)) (inl refl) more)

-- ---- the cells back

-- a slot with a cell is kept, a hole is not
kept : (c : StoredCell) (slots : List StoredCell) → is_hole c ≡ false → cells_in (c ∷ slots) ≡ c ∷ cells_in slots
kept c slots full = cond-true (not (is_hole c)) (c ∷ cells_in slots) (cells_in slots) (ap not full)

module _ (cmp : List ℤ → List ℤ → Ordering) (total : IsTotalOrder cmp) where
  strict : (x : List ℤ) → cmp x x ≡ Less → ⊥
  strict x less = let same = tied_itself total x in cc

  -- what comes before it stands at other coordinates
  rest_among : (at : List ℤ) (coords : List (List ℤ)) (cells : List StoredCell) → AllByRecursion (λ d. cmp at d.coords ≡ Less) cells → AllByRecursion (λ d. IsAmong (at ∷ coords) d.coords) cells
      → AllByRecursion (λ d. IsAmong coords d.coords) cells
  rest_among at coords [] later among = tt
  rest_among at coords (d ∷ cells) later among = (by later.0 among.0, rest_among at coords cells later.1 among.1)
    where
      by : cmp at d.coords ≡ Less → (at ≡ d.coords) ⊎ IsAmong coords d.coords → IsAmong coords d.coords
      by less (inl same) = absurd (strict at (subst (λ x. cmp at x ≡ Less) (sym same) less))
      by less (inr is) = is

  all_later : (x y : List ℤ) (cells : List StoredCell) → cmp x y ≡ Less → AllByRecursion (λ d. cmp y d.coords ≡ Less) cells → AllByRecursion (λ d. cmp x d.coords ≡ Less) cells
  all_later x y [] less later = tt
  all_later x y (d ∷ cells) less later = (total.trans x y d.coords less later.0, all_later x y cells less later.1)

  -- cells in order, each at one of the coordinates, which are in order too, are the cells of the slots
  pub back : (coords : List (List ℤ)) (cells : List StoredCell) → InOrder cmp coords → InOrder (λ (c d : StoredCell). cmp c.coords d.coords) cells
      → AllByRecursion (λ c. IsAmong coords c.coords) cells → AllByRecursion (λ c. is_hole c ≡ false) cells → cells_in (slots_from coords cells) ≡ cells
  back [] [] up ups among full = refl
  back [] (c ∷ cells) up ups among full = absurd among.0
  back (at ∷ coords) [] up ups among full = back coords [] up.1 tt tt tt
  back (at ∷ coords) (c ∷ cells) up ups among full = by (λ m. back coords cells up.1 ups.1 m full.1) (λ m. back coords (c ∷ cells) up.1 ups m full) (at_or_not c.coords at)
    where
      by : (AllByRecursion (λ d. IsAmong coords d.coords) cells → cells_in (slots_from coords cells) ≡ cells) → (AllByRecursion (λ d. IsAmong coords d.coords) (c ∷ cells) → cells_in (slots_from coords (c ∷ cells)) ≡ c ∷ cells)
          → (c.coords ≡ at) ⊎ (c.coords ≡ at → ⊥) → cells_in (slots_from (at ∷ coords) (c ∷ cells)) ≡ c ∷ cells
      by less more (inl same) =
          let later : AllByRecursion (λ (d : StoredCell). cmp at d.coords ≡ Less) cells = subst (λ x. AllByRecursion (λ (d : StoredCell). cmp x d.coords ≡ Less) cells) same ups.0 in
          ap cells_in (slots_hit at coords c cells same) ∙ kept c (slots_from coords cells) full.0 ∙ ap (λ cs. c ∷ cs) (less (rest_among at coords cells later among.1))
      by less more (inr apart) =
          let here : IsAmong coords c.coords = other among.0 in
          let above : cmp at c.coords ≡ Less = all_among (λ y. cmp at y ≡ Less) coords c.coords up.0 here in
          ap cells_in (slots_miss at coords c cells apart) ∙ more (here, rest_among at coords cells (all_later at c.coords cells above ups.0) among.1)
        where
          other : (at ≡ c.coords) ⊎ IsAmong coords c.coords → IsAmong coords c.coords
          other (inl same) = absurd (apart (sym same))
          other (inr is) = is

-- ---- what is stored of a dense fragment

module _ (frame : Frame) (dense : frame.dense ≡ true) (attrs : List Attr) (head : StoredHead) where
  abbrev order : List ℤ → List ℤ → Ordering
  order = global_cmp frame.domain frame.tile frame.cell

  -- a cell that may stand behind another has later coordinates
  step : (a b : StoredCell) → IsTrue (coords_rise frame (Some a) b.coords) → IsTrue (origin_rises frame.dense (Some a) b.coords b.origin) → order a.coords b.coords ≡ Less
  step a b rises known = by (order a.coords b.coords) refl rises
    where
      apart : (s t u : Bool) → t ≡ true → (not s || (not t && u)) ≡ true → s ≡ false
      apart false t u e h = refl
      apart true true u e h = absurd (true≢false (sym h))
      apart true false u e h = absurd (true≢false (sym e))

      by : (o : Ordering) → order a.coords b.coords ≡ o → not (is_gt o) ≡ true → o ≡ Less
      by Less e h = refl
      by Greater e h = absurd (true≢false (sym h))
      by Equal e h =
          let same = (coords_decide a.coords b.coords).1 (global_cmp-exact frame.domain frame.tile frame.cell a.coords b.coords e) in
          absurd (true≢false (sym same ∙ apart (coords_eq a.coords b.coords) frame.dense (nat_lt a.origin b.origin) dense known))

  step_on : (front : List StoredCell) (a b : StoredCell) → last_of front ≡ Some a → FitsCell frame attrs head front b → order a.coords b.coords ≡ Less
  step_on front a b last fits =
      let known = and_parts (nat_lt b.origin (length head.origins)) (origin_rises frame.dense (last_of front) b.coords b.origin) fits.known in
      step a b (subst (λ o. IsTrue (coords_rise frame o b.coords)) last fits.rises) (subst (λ o. IsTrue (origin_rises frame.dense o b.coords b.origin)) last known.1)

  below_all : (u : List ℤ) (a : StoredCell) (front cells : List StoredCell) → last_of front ≡ Some a → ((w : List ℤ) → order a.coords w ≡ Less → order u w ≡ Less)
      → InTurn (FitsCell frame attrs head) front cells → AllByRecursion (λ (d : StoredCell). order u d.coords ≡ Less) cells
  below_all u a front [] last carry fits = tt
  below_all u a front (b ∷ cells) last carry fits =
      let here = carry b.coords (step_on front a b last fits.0) in
      (here, below_all u b (front ++ b ∷ []) cells (last_pushed front b) (λ w next. (global_total frame.domain frame.tile frame.cell).trans u b.coords w here next) fits.1)

  -- the cells are in global order
  pub stored_in_order : (front cells : List StoredCell) → InTurn (FitsCell frame attrs head) front cells → InOrder (λ (c d : StoredCell). order c.coords d.coords) cells
  stored_in_order front [] fits = tt
  stored_in_order front (a ∷ cells) fits = (below_all a.coords a (front ++ a ∷ []) cells (last_pushed front a) (λ w less. less) fits.1, stored_in_order (front ++ a ∷ []) cells fits.1)

  -- each lies in the hull
  pub stored_among : (coords : List (List ℤ)) → ((x : List ℤ) → IsTrue (is_in_box (box_of head.hull) x) → IsAmong coords x)
      → (front cells : List StoredCell) → InTurn (FitsCell frame attrs head) front cells → AllByRecursion (λ (c : StoredCell). IsAmong coords c.coords) cells
  stored_among coords covered front [] fits = tt
  stored_among coords covered front (a ∷ cells) fits = (covered a.coords (on_hull head.hull a.coords (fits.0).coords), stored_among coords covered (front ++ a ∷ []) cells fits.1)

  -- and none looks like a hole
  pub stored_full : length head.origins < 256 ^ 4 → (front cells : List StoredCell) → InTurn (FitsCell frame attrs head) front cells → AllByRecursion (λ c. is_hole c ≡ false) cells
  stored_full few front [] fits = tt
  stored_full few front (a ∷ cells) fits =
      let known = and_parts (nat_lt a.origin (length head.origins)) (origin_rises frame.dense (last_of front) a.coords a.origin) (fits.0).known in
      let below : a.origin < length head.origins = ltb-true a.origin (length head.origins) known.0 in
      (ne_eqb a.origin no_origin (λ e. omega (arith, few, below, e)), stored_full few (front ++ a ∷ []) cells fits.1)

-- the cells of the slots are the cells that are stored
pub cells_back : (frame : Frame) (attrs : List Attr) (frag : FragKey) (s : StoredPiece) → FitsDense frame attrs frag s → cells_in (slots_of frame s) ≡ s.cells
unfolding slots_of
cells_back frame attrs frag s fits =
    let sound = All-IsDomain frame.domain (fits.sound).domain in
    let hull = (fits.head).hull in
    back (global_cmp frame.domain frame.tile frame.cell) (global_total frame.domain frame.tile frame.cell) (coords_over frame (box_of s.head.hull)) s.cells
    (coords_in_turn frame s.head.hull sound hull)
    (stored_in_order frame fits.dense attrs s.head [] s.cells fits.cells)
    (stored_among frame fits.dense attrs s.head (coords_over frame (box_of s.head.hull)) (coords_covered frame s.head.hull sound hull) [] s.cells fits.cells)
    (stored_full frame fits.dense attrs s.head (fits.head).few_origins [] s.cells fits.cells)

-- ---- no holes

-- where as many pass as there are, all pass
all_pass : {X : Type 0} (p : X → Bool) (xs : List X) → length (filter p xs) ≡ length xs → AllByRecursion (λ x. p x ≡ true) xs
all_pass p [] same = tt
all_pass p (x ∷ xs) same = by (all_pass p xs) (p x) refl same
  where
    by : (length (filter p xs) ≡ length xs → AllByRecursion (λ x. p x ≡ true) xs) → (b : Bool) → p x ≡ b → length (cond b (x ∷ filter p xs) (filter p xs)) ≡ suc (length xs) → (p x ≡ true) × AllByRecursion (λ x. p x ≡ true) xs
    by rest true e same = (e, rest (omega (arith, same)))
    by rest false e same = absurd (omega (arith, same, length-filter p xs, count_by-le-length p xs))

no_holes : (slots : List StoredCell) → AllByRecursion (λ slot. not (is_hole slot) ≡ true) slots → All (λ slot. is_hole slot ≡ false) slots
no_holes [] all = All-nil (λ slot. is_hole slot ≡ false)
no_holes (slot ∷ slots) all = All-cons (λ slot. is_hole slot ≡ false) slot slots (not-true (is_hole slot) all.0) (no_holes slots all.1)

-- there are as many slots as cells in the hull
pub slots_of_many : (frame : Frame) (attrs : List Attr) (frag : FragKey) (s : StoredPiece) → FitsDense frame attrs frag s → length (slots_of frame s) ≡ volume s.head.hull
unfolding slots_of
slots_of_many frame attrs frag s fits =
    slots_many (coords_over frame (box_of s.head.hull)) s.cells ∙ coords_many frame s.head.hull (All-IsDomain frame.domain (fits.sound).domain) (fits.head).hull

-- where there are as many cells as the hull has, there is no hole
pub slots_covered : (frame : Frame) (attrs : List Attr) (frag : FragKey) (s : StoredPiece) → FitsDense frame attrs frag s → length s.cells ≡ s.head.cells → All (λ slot. is_hole slot ≡ false) (slots_of frame s)
slots_covered frame attrs frag s fits many =
    let count = ap length (cells_back frame attrs frag s fits) in
    no_holes (slots_of frame s) (all_pass (λ (slot : StoredCell). not (is_hole slot)) (slots_of frame s) (count ∙ many ∙ fits.counts_hull ∙ sym (slots_of_many frame attrs frag s fits)))

-- what no consolidation made has no hole
pub slots_full : (frame : Frame) (attrs : List Attr) (frag : FragKey) (s : StoredPiece) → FitsDense frame attrs frag s → s.head.consolidated ≡ false → All (λ slot. is_hole slot ≡ false) (slots_of frame s)
slots_full frame attrs frag s fits plain = slots_covered frame attrs frag s fits (fits.no_hole plain)

-- slots that all have cells are these cells
all_cells : (slots : List StoredCell) → All (λ slot. is_hole slot ≡ false) slots → cells_in slots ≡ slots
all_cells [] full = refl
all_cells (slot ∷ slots) full =
    kept slot slots (All-head (λ slot. is_hole slot ≡ false) slot slots full) ∙ ap (λ more. slot ∷ more) (all_cells slots (All-tail (λ slot. is_hole slot ≡ false) slot slots full))

-- so its slots are its cells
pub covered_cells : (frame : Frame) (attrs : List Attr) (frag : FragKey) (s : StoredPiece) → FitsDense frame attrs frag s → length s.cells ≡ s.head.cells → slots_of frame s ≡ s.cells
covered_cells frame attrs frag s fits many = sym (all_cells (slots_of frame s) (slots_covered frame attrs frag s fits many)) ∙ cells_back frame attrs frag s fits

pub slots_are_cells : (frame : Frame) (attrs : List Attr) (frag : FragKey) (s : StoredPiece) → FitsDense frame attrs frag s → s.head.consolidated ≡ false → slots_of frame s ≡ s.cells
slots_are_cells frame attrs frag s fits plain = covered_cells frame attrs frag s fits (fits.no_hole plain)

-- ---- slots from their cells

-- cells that stand elsewhere leave a hole
holes_first : (at : List ℤ) (coords : List (List ℤ)) (cells : List StoredCell) → AllByRecursion (λ c. c.coords ≡ at → ⊥) cells → slots_from (at ∷ coords) cells ≡ hole at ∷ slots_from coords cells
holes_first at coords [] apart = refl
holes_first at coords (c ∷ cells) apart = slots_miss at coords c cells apart.0

-- the cells of slots that all stand elsewhere
cells_apart : (at : List ℤ) (slots : List StoredCell) → (IsAmong (map (λ (c : StoredCell). c.coords) slots) at → ⊥) → AllByRecursion (λ c. c.coords ≡ at → ⊥) (cells_in slots)
cells_apart at [] apart = tt
cells_apart at (s ∷ slots) apart = by (cells_apart at slots (λ is. apart (inr is))) (not (is_hole s))
  where
    by : AllByRecursion (λ c. c.coords ≡ at → ⊥) (cells_in slots) → (b : Bool) → AllByRecursion (λ c. c.coords ≡ at → ⊥) (cond b (s ∷ cells_in slots) (cells_in slots))
    by rest true = ((λ same. apart (inl same)), rest)
    by rest false = rest

-- a slot without a cell is the hole at its coordinates
abbrev pub IsPlainHole : StoredCell → Type 0
IsPlainHole slot = is_hole slot ≡ true → slot ≡ hole slot.coords

-- slots whose coordinates these are, none twice, are those that their cells make there
pub slots_by_cells : (coords : List (List ℤ)) (slots : List StoredCell) → NoneTwice coords → map (λ (c : StoredCell). c.coords) slots ≡ coords → All IsPlainHole slots → slots_from coords (cells_in slots) ≡ slots
slots_by_cells coords slots once at holes = ap (λ cs. slots_from cs (cells_in slots)) (sym at) ∙ made slots (subst NoneTwice (sym at) once) holes
  where
    made : (slots : List StoredCell) → NoneTwice (map (λ (c : StoredCell). c.coords) slots) → All IsPlainHole slots → slots_from (map (λ (c : StoredCell). c.coords) slots) (cells_in slots) ≡ slots
    made [] once holes = refl
    made (s ∷ slots) once holes = by (made slots once.1 (All-tail IsPlainHole s slots holes)) (is_hole s) refl
      where
        by : slots_from (map (λ (c : StoredCell). c.coords) slots) (cells_in slots) ≡ slots → (b : Bool) → is_hole s ≡ b → slots_from (s.coords ∷ map (λ (c : StoredCell). c.coords) slots) (cond (not (is_hole s)) (s ∷ cells_in slots) (cells_in slots)) ≡ s ∷ slots
        by rest true e =
            rw e (holes_first s.coords (map (λ (c : StoredCell). c.coords) slots) (cells_in slots) (cells_apart s.coords slots once.0) ∙ ap (λ x. x ∷ slots_from (map (λ (c : StoredCell). c.coords) slots) (cells_in slots)) (sym (All-head IsPlainHole s slots holes e)) ∙ ap (λ xs. s ∷ xs) rest)
        by rest false e = rw e (slots_hit s.coords (map (λ (c : StoredCell). c.coords) slots) s (cells_in slots) refl ∙ ap (λ xs. s ∷ xs) rest)
