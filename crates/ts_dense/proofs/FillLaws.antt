-- The steps of the loops that fill slots.
use Rattle.std.proofs.Common.{◌≡◌, ℕ, ◌+◌, ◌<◌, ◌≤◌, ℤ, Bool, true, false, List, [], ◌∷◌, ◌++◌, length, drop, get_or, Option, Some, None, refl, sym, ap, ◌∙◌, subst, arith, append_assoc, inl, inr}
use Rattle.std.specs.Prelude.{if◌then◌else◌, slice_get}
use Rattle.std.specs.List.{flat_map, All}
use Rattle.std.specs.Option.{is_some}
use Rattle.std.proofs.lemmas.List.{drop_more, drop_all, append-nil}
use Rattle.std.proofs.lemmas.Bool.{true≢false}
use Rattle.std.proofs.lemmas.Option.{get_or_from_slice_get, slice_get_cases, slice_get_within, slice_get-get_or}
use Rattle.ts_base.specs.declared.heads.Version.{Version}
use Rattle.ts_base.specs.declared.heads.Head.{Head}
use Rattle.ts_base.specs.declared.heads.Piece.{Piece}
use Rattle.ts_base.specs.Coords.{coords_eq}
use Rattle.ts_domain.specs.declared.orders.Order.{Order}
use Rattle.ts_domain.specs.declared.boxes.SubBox.{SubBox}
use Rattle.ts_domain.specs.declared.dims.Dim.{Dim}
use Rattle.ts_domain.specs.Boxes.{IsBox}
use Rattle.ts_domain.specs.Domains.{LiesInDomain}
use Rattle.ts_order.specs.Tiles.{AreTiles}
use Rattle.ts_schema.specs.declared.attrs.Attr.{Attr}
use Rattle.ts_plain.specs.Writes.{stored_head, hulled_for, NamesWrites}
use Rattle.ts_sparse.proofs.FormLaws.{lows_back, highs_back}
use Rattle.ts_order.specs.Orders.{coords_in_order}
use Rattle.ts_schema.specs.declared.frames.Frame.{Frame}
use Rattle.ts_dense.specs.Dense.{FitsDense}
use Rattle.ts_dense.proofs.HullOrder.{hull_box}
use Rattle.ts_dense.specs.Laying.{taken_at, versions_at, hull_of_head}

-- how many versions a slot takes
abbrev pub taken : Option Version → ℕ
taken None = 0
taken (Some v) = 1

-- the slot of the next coordinates, and the versions behind it
step_some : (b : Bool) (coords : List (List ℤ)) (v : Version) (versions : List Version) (next : ℕ) (all : List Version) → drop next all ≡ v ∷ versions → drop (next + 1) all ≡ versions
    → (if b then Some v ∷ versions_at coords versions else None ∷ versions_at coords (v ∷ versions)) ≡ (if b then Some v else None) ∷ versions_at coords (drop (next + taken (if b then Some v else None)) all)
step_some true coords v versions next all here after = ap (λ vs. Some v ∷ versions_at coords vs) (sym after)
step_some false coords v versions next all here after =
    let same : next + 0 ≡ next = omega arith in
    ap (λ vs. None ∷ versions_at coords vs) (sym here) ∙ ap (λ n. None ∷ versions_at coords (drop n all)) (sym same)

pub next_slot : (at : List ℤ) (coords : List (List ℤ)) (versions : List Version) (next : ℕ)
    → versions_at (at ∷ coords) (drop next versions) ≡ taken_at at (slice_get versions next) ∷ versions_at coords (drop (next + taken (taken_at at (slice_get versions next))) versions)
next_slot at coords versions next = elim (slice_get_cases versions next).1 [
  | inl there ↦
      let v = there.0 in
      let is = there.2 in
      let here : drop next versions ≡ v ∷ drop (next + 1) versions = drop_more versions next v there.1 ∙ ap (λ x. x ∷ drop (next + 1) versions) (get_or_from_slice_get versions next v v is) in
      ap (versions_at (at ∷ coords)) here ∙ step_some (coords_eq v.coords at) coords v (drop (next + 1) versions) next versions here refl
      ∙ ap (λ o. taken_at at o ∷ versions_at coords (drop (next + taken (taken_at at o)) versions)) (sym is)
  | inr none ↦
      let over : drop next versions ≡ [] = drop_all next versions none.0 in
      let same : next + 0 ≡ next = omega arith in
      ap (versions_at (at ∷ coords)) over ∙ ap (λ vs. None ∷ versions_at coords vs) (sym over) ∙ ap (λ n. None ∷ versions_at coords (drop n versions)) (sym same)
      ∙ ap (λ o. taken_at at o ∷ versions_at coords (drop (next + taken (taken_at at o)) versions)) (sym none.1)
]

pub taken_one : (s : Option Version) (b : Bool) → b ≡ is_some s → b ≡ true → taken s ≡ 1
taken_one None b is some = absurd (true≢false (sym some ∙ is))
taken_one (Some v) b is some = refl

pub taken_none : (s : Option Version) (b : Bool) → b ≡ is_some s → b ≡ false → taken s ≡ 0
taken_none None b is none = refl
taken_none (Some v) b is none = absurd (true≢false (sym is ∙ none))

-- ---- one tile

-- the slots so far, and those of the coordinates that are left
abbrev pub Filling : List (Option Version) → List (List ℤ) → List Version → ℕ → List (Option Version) → ℕ → ℕ → Type 0
Filling old coords versions first slots place next =
    (more : List (List ℤ)) → old ++ versions_at (coords ++ more) (drop first versions) ≡ slots ++ versions_at (drop place coords ++ more) (drop next versions)

pub filling_more : (old slots pushed : List (Option Version)) (coords : List (List ℤ)) (versions : List Version) (first place next after : ℕ) (at : List ℤ) (s : Option Version) → Filling old coords versions first slots place next
    → slice_get coords place ≡ Some at → s ≡ taken_at at (slice_get versions next) → pushed ≡ slots ++ s ∷ [] → after ≡ next + taken s → Filling old coords versions first pushed (place + 1) after
filling_more old slots pushed coords versions first place next after at s filled here is push grown more =
    let slot = taken_at at (slice_get versions next) in
    let others = drop (place + 1) coords ++ more in
    let rest : drop place coords ≡ at ∷ drop (place + 1) coords =
    drop_more coords place at (slice_get_within coords place at here) ∙ ap (λ x. x ∷ drop (place + 1) coords) (get_or_from_slice_get coords place at at here) in
    filled more ∙ ap (λ cs. slots ++ versions_at (cs ++ more) (drop next versions)) rest
    ∙ ap (λ os. slots ++ os) (next_slot at others versions next)
    ∙ ap (λ o. slots ++ (o ∷ versions_at others (drop (next + taken o) versions))) (sym is)
    ∙ sym (append_assoc slots (s ∷ []) (versions_at others (drop (next + taken s) versions)))
    ∙ ap (λ os. os ++ versions_at others (drop (next + taken s) versions)) (sym push)
    ∙ ap (λ n. pushed ++ versions_at others (drop n versions)) (sym grown)

pub filled_all : (old slots : List (Option Version)) (coords : List (List ℤ)) (versions : List Version) (first place next : ℕ) → Filling old coords versions first slots place next → length coords ≤ place
    → (more : List (List ℤ)) → old ++ versions_at (coords ++ more) (drop first versions) ≡ slots ++ versions_at more (drop next versions)
filled_all old slots coords versions first place next filled over more = filled more ∙ ap (λ cs. slots ++ versions_at (cs ++ more) (drop next versions)) (drop_all place coords over)

-- ---- tile by tile

-- the slots so far, and those of the tiles that are left
abbrev pub Placing : Order → List SubBox → List Version → List (Option Version) → ℕ → ℕ → Type 0
Placing order tiles versions slots next i =
    slots ++ versions_at (flat_map (coords_in_order order) (drop i tiles)) (drop next versions) ≡ versions_at (flat_map (coords_in_order order) tiles) versions

pub placing_none : (order : Order) (tiles : List SubBox) (versions : List Version) (slots : List (Option Version)) → slots ≡ [] → Placing order tiles versions slots 0 0
placing_none order tiles versions slots empty = ap (λ os. os ++ versions_at (flat_map (coords_in_order order) tiles) versions) empty

pub placing_more : (order : Order) (tiles : List SubBox) (versions : List Version) (slots fuller : List (Option Version)) (next after i : ℕ) (tile : SubBox) → Placing order tiles versions slots next i
    → i < length tiles → tile ≡ get_or tiles i tile
    → ((more : List (List ℤ)) → slots ++ versions_at (coords_in_order order tile ++ more) (drop next versions) ≡ fuller ++ versions_at more (drop after versions)) → Placing order tiles versions fuller after (i + 1)
placing_more order tiles versions slots fuller next after i tile placed within is fills =
    let others = drop (i + 1) tiles in
    let rest : drop i tiles ≡ tile ∷ others = drop_more tiles i tile within ∙ ap (λ t. t ∷ others) (sym is) in
    sym (fills (flat_map (coords_in_order order) others)) ∙ ap (λ ts. slots ++ versions_at (flat_map (coords_in_order order) ts) (drop next versions)) (sym rest) ∙ placed

pub placed_all : (order : Order) (tiles : List SubBox) (versions : List Version) (slots : List (Option Version)) (next i : ℕ) → Placing order tiles versions slots next i → length tiles ≤ i
    → slots ≡ versions_at (flat_map (coords_in_order order) tiles) versions
placed_all order tiles versions slots next i placed over =
    sym (append-nil slots) ∙ ap (λ ts. slots ++ versions_at (flat_map (coords_in_order order) ts) (drop next versions)) (sym (drop_all i tiles over)) ∙ placed

-- ---- the tiles of a hull

pub hull_is : (head : Head) → length head.high ≡ length head.low → hull_of_head head ≡ record { low = head.low; high = head.high }
hull_is head same =
    let low = lows_back head.low head.high same in
    let high = highs_back head.low head.high same in
    λ i. record { low = low i; high = high i }

module _ (frame : Frame) (attrs : List Attr) (piece : Piece) (names : NamesWrites piece) (fits : FitsDense frame attrs piece.head.frag (hulled_for piece)) where
  pub hull_valid : IsBox (record { low = piece.head.low; high = piece.head.high })
  hull_valid = subst IsBox (hull_is piece.head names.corners) (hull_box frame.domain (stored_head piece.head).hull (fits.head).hull).0

  pub hull_inside : LiesInDomain frame.domain (record { low = piece.head.low; high = piece.head.high })
  hull_inside = subst (LiesInDomain frame.domain) (hull_is piece.head names.corners) (hull_box frame.domain (stored_head piece.head).hull (fits.head).hull).1

pub each_is_box : (dims : List Dim) (tile : Order) (sub : SubBox) (tiles : List SubBox) → AreTiles dims tile sub tiles → All IsBox tiles
each_is_box dims tile sub tiles are i d within = are.valid i (get_or tiles i d) (slice_get-get_or tiles i d within)
