-- The piece of a consolidation is one that a plain object holds.
use Rattle.std.proofs.Common.{◌≡◌, ℕ, zero, suc, Bool, true, false, ◌&&◌, nat_lt, List, [], ◌∷◌, ◌++◌, length, map, get_or, Option, Some, None, inl, inr, refl, sym, ap, ◌∙◌, subst, arith}
use Rattle.std.specs.Prelude.{IsTrue, Contains, nat_eq, not, ◌||◌, ◌⊎◌, ◌<◌, ◌≤◌, ◌+◌, ◌-◌, ◌^◌, min, ⊤}
use Rattle.std.specs.List.{All}
use Rattle.std.specs.List.Sorted.{IsStrictlySortedBy}
use Rattle.std.specs.Bool.{beq}
use Rattle.std.specs.Cmp.{tied_itself}
use Rattle.std.specs.Ordering.{is_lt}
use Rattle.std.specs.declared.cmp.Ordering.TheVariants.{Less}
use Rattle.std.proofs.lemmas.Bool.{true≢false, and_from, le-leb, eq-eqb, lt-ltb, ne_eqb, cases_lt}
use Rattle.std.proofs.lemmas.List.{length-map, length_push}
use Rattle.std.proofs.lemmas.List.Elements.{All-head, All-tail}
use Rattle.std.proofs.lemmas.Map.Keys.{sorted_tail, Less-from_sorted}
use Rattle.ts_base.specs.declared.keys.Key.{Key}
use Rattle.ts_base.specs.declared.keys.FragKey.{FragKey}
use Rattle.ts_base.specs.declared.heads.Head.{Head}
use Rattle.ts_base.specs.declared.heads.Piece.{Piece}
use Rattle.ts_base.specs.declared.heads.Version.{Version}
use Rattle.ts_base.specs.Keys.{key_cmp, key_lt}
use Rattle.ts_base.specs.Coords.{coords_eq}
use Rattle.ts_base.specs.Exact.{key_total}
use Rattle.ts_domain.specs.Dims.{IsDim}
use Rattle.ts_order.proofs.OrderLemmas.{global_total}
use Rattle.ts_order.proofs.PlaceLaws.{nat_cmp-lt}
use Rattle.ts_wire.specs.Exact.{InTurn}
use Rattle.ts_schema.specs.declared.attrs.Attr.{Attr}
use Rattle.ts_schema.specs.declared.frames.Frame.{Frame}
use Rattle.ts_plain.specs.declared.stored.StoredCell.{StoredCell}
use Rattle.ts_plain.specs.Rules.{counted, last_of, may_span, is_full, may_hold, may_count, rises_from, may_end, coords_rise, origin_rises}
use Rattle.ts_plain.specs.Plain.{FitsOrigin, FitsCell, FitsPlain}
use Rattle.ts_plain.specs.Pieces.{no_key, version_in, head_of, piece_of}
use Rattle.ts_plain.specs.Writes.{place_of, HasPlace, sides_of, counting_head, stored_cell, stored_for, CountsCells}
use Rattle.ts_plain.proofs.KeyLemmas.{not_below_back}
use Rattle.ts_plain.proofs.Places.{at-place_of, place_of-at}
use Rattle.ts_plain.proofs.WrittenPieces.{last_pushed}
use Rattle.ts_model.specs.Commands.{global_order}
use Rattle.ts_model.specs.Deeds.{IsKey}
use Rattle.ts_model.specs.Consolidated.{IsMergedVersion, ComesBefore, Rise, IsConsolidated, IsStorable}
use Rattle.ts_model.proofs.ListLemmas.{Contains-only, Contains-there, Contains-cons}
use Rattle.ts_model.proofs.Members.{key_there}
use Rattle.ts_actor.specs.PlainCodec.{IsPlainStorable}
use Rattle.ts_actor.specs.PlainWrites.{ordinary_fits, ordinary_back, hull_fits, coords_fit, lows_back, highs_back, volume_between, row_fits, not_same}

-- ---- places

-- an origin has a place
has_place : (ks : List Key) (k : Key) → IsStrictlySortedBy key_cmp ks → Contains ks k → HasPlace ks k
has_place ks k up at = let same = ap (place_of ks) (sym at.2) ∙ place_of-at ks at.0 k up at.1 in let less = at.1 in omega (arith, same, less)

-- a lesser key has a lesser place
place_less : (ks : List Key) (k l : Key) → IsStrictlySortedBy key_cmp ks → HasPlace ks k → HasPlace ks l → key_lt k l ≡ true → place_of ks k < place_of ks l
place_less ks k l up own other below = elim (cases_lt (place_of ks k) (place_of ks l)) [
  | inl less ↦ less
  | inr above ↦ elim (cases_lt (place_of ks l) (place_of ks k)) [
    | inl greater ↦
        let less : key_cmp (get_or ks (place_of ks l) no_key) (get_or ks (place_of ks k) no_key) ≡ Less = Less-from_sorted key_cmp ks (place_of ks l) (place_of ks k) no_key up greater own in
        let back : key_lt l k ≡ true = ap is_lt (sym (ap (λ x. key_cmp x (get_or ks (place_of ks k) no_key)) (at-place_of ks l no_key other) ∙ ap (key_cmp l) (at-place_of ks k no_key own)) ∙ less) in
        absurd (true≢false (sym below ∙ not_below_back l k back))
    | inr level ↦
        let same : k ≡ l = sym (at-place_of ks k no_key own) ∙ ap (λ i. get_or ks i no_key) (omega (arith, above, level)) ∙ at-place_of ks l no_key other in
        absurd (true≢false (sym below ∙ ap (λ x. key_lt x l) same ∙ ap is_lt (tied_itself key_total l)))
  ]
]

-- ---- the origins

-- the keys behind the last one fit in turn
abbrev FirstOf : FragKey → Option Key → List Key → Type 0
FirstOf frag o [] = ⊤
FirstOf frag None (k ∷ ks) = k.t ≡ frag.t1
FirstOf frag (Some before) (k ∷ ks) = key_lt before k ≡ true

-- the last key is stamped as the greatest one of the fragment
abbrev pub LastOf : FragKey → List Key → Type 0
LastOf frag [] = ⊤
LastOf frag (k ∷ []) = k.t ≡ frag.t2
LastOf frag (k ∷ l ∷ ks) = LastOf frag (l ∷ ks)

next_above : (frag : FragKey) (k : Key) (ks : List Key) → IsStrictlySortedBy key_cmp (k ∷ ks) → FirstOf frag (Some k) ks
next_above frag k [] up = tt
next_above frag k (l ∷ ks) up = ap is_lt (Less-from_sorted key_cmp (k ∷ l ∷ ks) 0 1 k up (omega arith) (omega arith))

rises_in : (frag : FragKey) (o : Option Key) (k : Key) (ks : List Key) → FirstOf frag o (k ∷ ks) → rises_from frag o k ≡ true
rises_in frag None k ks first = eq-eqb k.t frag.t1 first
rises_in frag (Some before) k ks first = first

ends_in : (frag : FragKey) (place count : ℕ) (k : Key) (ks : List Key) → count ≡ place + length (k ∷ ks) → LastOf frag (k ∷ ks) → may_end frag (nat_eq (place + 1) count) k ≡ true
ends_in frag place count k [] all last = ap (λ b. not b || nat_eq k.t frag.t2) (eq-eqb (place + 1) count (omega (arith, all))) ∙ eq-eqb k.t frag.t2 last
ends_in frag place count k (l ∷ ks) all last = ap (λ b. not b || nat_eq k.t frag.t2) (ne_eqb (place + 1) count (λ e. omega (arith, all, e)))

last_on : (frag : FragKey) (k : Key) (ks : List Key) → LastOf frag (k ∷ ks) → LastOf frag ks
last_on frag k [] last = tt
last_on frag k (l ∷ ks) last = last

origins_fit : (frag : FragKey) (count : ℕ) (front ks : List Key) (o : Option Key) → last_of front ≡ o → count ≡ length front + length ks → IsStrictlySortedBy key_cmp ks → All IsKey ks → FirstOf frag o ks → LastOf frag ks
    → InTurn (FitsOrigin frag true count) front ks
origins_fit frag count front [] o last_is all up keys first last = tt
origins_fit frag count front (k ∷ ks) o last_is all up keys first last =
    let own = All-head IsKey k ks keys in (
      record { range = (own.t, own.id); in_place = and_from (rises_from frag (last_of front) k) (may_end frag (nat_eq (length front + 1) count) k) (ap (λ x. rises_from frag x k) last_is ∙ rises_in frag o k ks first) (ends_in frag (length front) count k ks all last) },
      origins_fit frag count (front ++ k ∷ []) ks (Some k) (last_pushed front k) (let more = length_push front k in omega (arith, all, more)) (sorted_tail key_cmp k ks up) (All-tail IsKey k ks keys) (next_above frag k ks up) (last_on frag k ks last),
    )

-- ---- the cells

module _ (frame : Frame) (attrs : List Attr) (head : Head) (many : ℕ) (dims : All IsDim frame.domain) (up : IsStrictlySortedBy key_cmp head.origins) where
  -- a version comes behind the cell before, if there is one
  abbrev Behind : Option StoredCell → Version → Type 0
  Behind None v = ⊤
  Behind (Some before) v = (global_order frame before.coords v.coords ≡ Less) ⊎ ((frame.dense ≡ false) × (before.coords ≡ v.coords) × (before.origin < place_of head.origins v.key))

  abbrev Begins : Option StoredCell → List Version → Type 0
  Begins o [] = ⊤
  Begins o (v ∷ vs) = Behind o v

  rises : (o : Option StoredCell) (v : Version) → Behind o v → IsTrue (coords_rise frame o v.coords)
  rises None v h = refl
  rises (Some before) v (inl less) = rw less refl
  rises (Some before) v (inr same) = rw (same.1, tied_itself (global_total frame.domain frame.tile frame.cell) v.coords) refl

  origin_above : (o : Option StoredCell) (v : Version) → Behind o v → IsTrue (origin_rises frame.dense o v.coords (place_of head.origins v.key))
  origin_above None v h = refl
  origin_above (Some before) v (inl less) = rw (not_same frame before.coords v.coords less) refl
  origin_above (Some before) v (inr same) = either (not (coords_eq before.coords v.coords)) (not frame.dense && nat_lt before.origin (place_of head.origins v.key)) (and_from (not frame.dense) (nat_lt before.origin (place_of head.origins v.key)) (ap not same.0) (lt-ltb before.origin (place_of head.origins v.key) same.2))
    where
      either : (s t : Bool) → t ≡ true → s || t ≡ true
      either true t e = refl
      either false t e = e

  abbrev IsOne : Version → Type 0
  IsOne = IsMergedVersion frame attrs head

  placed : (v : Version) → IsOne v → HasPlace head.origins v.key
  placed v is = has_place head.origins v.key up (key_there v.key head.origins is.by_origin)

  cell_fits : (few : length head.origins < 2 ^ 32) (front : List StoredCell) (v : Version) → IsOne v → Behind (last_of front) v → FitsCell frame attrs (counting_head head many) front (stored_cell head.origins v)
  cell_fits few front v is behind =
      let place = placed v is in
      record {
        coords = coords_fit frame.domain head.low head.high v.coords dims is.inside is.hull;
        rises = rises (last_of front) v behind;
        origin = omega (arith, place, few);
        known = and_from (nat_lt (place_of head.origins v.key) (length head.origins)) _ (lt-ltb (place_of head.origins v.key) (length head.origins) place) (origin_above (last_of front) v behind);
        row = row_fits attrs v.row is.row;
      }

  -- the next version comes behind the cell of the one before
  next_behind : (v : Version) (ws : List Version) → IsOne v → All IsOne ws → All (ComesBefore frame v) ws → Begins (Some (stored_cell head.origins v)) ws
  next_behind v [] is all before = tt
  next_behind v (w ∷ ws) is all before = elim (All-head (ComesBefore frame v) w ws before) [
    | inl less ↦ inl less
    | inr same ↦ inr (same.0, same.1, place_less head.origins v.key w.key up (placed v is) (placed w (All-head IsOne w ws all)) same.2)
  ]

  cells_fit : (few : length head.origins < 2 ^ 32) (front : List StoredCell) (vs : List Version) → All IsOne vs → Begins (last_of front) vs → Rise frame vs → InTurn (FitsCell frame attrs (counting_head head many)) front (map (stored_cell head.origins) vs)
  cells_fit few front [] all first rise = tt
  cells_fit few front (v ∷ vs) all first rise =
      let own = All-head IsOne v vs all in
      let rest = All-tail IsOne v vs all in
      (cell_fits few front v own first, cells_fit few (front ++ stored_cell head.origins v ∷ []) vs rest (subst (λ o. Begins o vs) (sym (last_pushed front (stored_cell head.origins v))) (next_behind v vs own rest rise.0)) rise.1)

  versions_back : (vs : List Version) → All IsOne vs → vs ≡ map (version_in (counting_head head many)) (map (stored_cell head.origins) vs)
  versions_back [] all = refl
  versions_back (v ∷ vs) all =
      let is = All-head IsOne v vs all in
      let key = at-place_of head.origins v.key no_key (placed v is) in
      let schema = is.in_schema in
      let rest = versions_back vs (All-tail IsOne v vs all) in
      λ i. record { key = (sym key) i; schema = schema i; coords = v.coords; row = v.row } ∷ rest i

-- ---- the piece

-- what is stored of the piece of a consolidation keeps all rules, where it has a version, its first origin has the least timestamp and its last one the greatest
pub merged_fits : (frame : Frame) (attrs : List Attr) (p : Piece) → IsConsolidated frame attrs p → 1 ≤ length p.versions → FirstOf p.head.frag None p.head.origins → LastOf p.head.frag p.head.origins → FitsPlain frame attrs p.head.frag (stored_for p)
merged_fits frame attrs p is some first last =
    let dims = (is.is_frame).domain.valid in
    let some_origin = (is.span).least in
    record {
      head = record {
        schema = (is.schema.t, is.schema.id);
        kind = ap (beq frame.dense) is.dense ∙ same frame.dense;
        span = ap (may_span p.head.frag) is.consolidated;
        hull = hull_fits frame.domain p.head.low p.head.high dims is.low is.high is.corners;
        cells = omega (arith, is.few);
        as_many = ap (λ b. may_hold (is_full frame.dense b) (sides_of p.head.low p.head.high) (length p.versions)) is.consolidated ∙ as_many frame.dense;
        few_origins = omega (arith, is.few_origins);
        some_origin = ap (λ b. may_count b (length p.head.origins)) is.consolidated ∙ le-leb 1 (length p.head.origins) (let less = some_origin.1.1 in omega (arith, less));
        origins = subst (λ b. InTurn (FitsOrigin p.head.frag b (length p.head.origins)) [] p.head.origins) (sym is.consolidated)
            (origins_fit p.head.frag (length p.head.origins) [] p.head.origins None refl (omega arith) is.ascend is.are_keys first last);
      };
      count = length-map p.versions (stored_cell p.head.origins);
      cells = cells_fit frame attrs p.head (length p.versions) dims is.ascend is.few_origins [] p.versions is.versions (begin p.versions) is.rise;
    }
  where
    same : (b : Bool) → beq b b ≡ true
    same true = refl
    same false = refl

    as_many : (dense : Bool) → IsTrue (may_hold (is_full dense true) (sides_of p.head.low p.head.high) (length p.versions))
    as_many true = le-leb 1 (length p.versions) some
    as_many false = le-leb 1 (length p.versions) some

    begin : (vs : List Version) → Begins frame attrs p.head (length p.versions) (is.is_frame).domain.valid is.ascend None vs
    begin [] = tt
    begin (v ∷ vs) = tt

-- the head of the piece of a consolidation counts its versions, of a dense array the cells of its hull
merged_counts : (frame : Frame) (attrs : List Attr) (p : Piece) → IsConsolidated frame attrs p → CountsCells p
merged_counts frame attrs p is = by p.head.dense refl
  where
    by : (dense : Bool) → p.head.dense ≡ dense → p.head.cells ≡ counted dense (sides_of p.head.low p.head.high) (length p.versions)
    by true e = is.whole (sym is.dense ∙ e) ∙ ap (λ n. min n (2 ^ 64 - 1)) (sym (volume_between p.head.low p.head.high is.corners))
    by false e = is.cells (sym is.dense ∙ e)

-- the piece is the one that what is stored of it holds
pub merged_back : (frame : Frame) (attrs : List Attr) (p : Piece) → IsConsolidated frame attrs p → p ≡ piece_of p.head.frag (stored_for p)
unfolding piece_of head_of
merged_back frame attrs p is =
    let low = lows_back p.head.low p.head.high is.corners in
    let high = highs_back p.head.low p.head.high is.corners in
    let versions = versions_back frame attrs p.head (length p.versions) (is.is_frame).domain.valid is.ascend p.versions is.versions in
    let told = merged_counts frame attrs p is in
    let head = p.head in
    λ i. record {
      head = record { frag = head.frag; schema = head.schema; dense = head.dense; consolidated = head.consolidated; low = low i; high = high i; cells = told i; origins = head.origins };
      versions = versions i;
    }

-- ---- the span

-- a lesser key is not stamped later
pub t_upto : (k l : Key) → key_lt k l ≡ true → k.t ≤ l.t
t_upto k l below = elim (cases_lt l.t k.t) [
  | inl less ↦ absurd (true≢false (sym below ∙ not_below_back l k (let is = nat_cmp-lt l.t k.t less in rw is refl)))
  | inr upto ↦ upto
]

-- the first origin of a span has its least timestamp
first_in : (frag : FragKey) (ks : List Key) → IsStrictlySortedBy key_cmp ks → ((k : Key) → Contains ks k → frag.t1 ≤ k.t) → (j : Key) → Contains ks j → j.t ≡ frag.t1 → FirstOf frag None ks
first_in frag [] up all j at least = tt
first_in frag (k ∷ ks) up all j at least = by at.0 at.1 at.2
  where
    by : (i : ℕ) → i < length (k ∷ ks) → get_or (k ∷ ks) i j ≡ j → k.t ≡ frag.t1
    by zero less same = ap (λ (x : Key). x.t) same ∙ least
    by (suc i) less same =
        let below : key_lt k j ≡ true = ap is_lt (sym (ap (key_cmp k) same) ∙ Less-from_sorted key_cmp (k ∷ ks) 0 (suc i) j up (omega arith) less) in
        let upto = t_upto k j below in
        let from = all k (0, omega arith, refl) in
        omega (arith, upto, from, least)

-- the last origin of a span has its greatest timestamp
last_in : (frag : FragKey) (ks : List Key) → IsStrictlySortedBy key_cmp ks → ((k : Key) → Contains ks k → k.t ≤ frag.t2) → (j : Key) → Contains ks j → j.t ≡ frag.t2 → LastOf frag ks
last_in frag [] up all j at most = tt
last_in frag (k ∷ []) up all j at most = ap (λ (x : Key). x.t) (Contains-only k j at) ∙ most
last_in frag (k ∷ l ∷ ks) up all j at most =
    let rest = sorted_tail key_cmp k (l ∷ ks) up in
    let later : (x : Key) → Contains (l ∷ ks) x → x.t ≤ frag.t2 = λ x there. all x (Contains-there k (l ∷ ks) x there) in
    elim (Contains-cons k (l ∷ ks) j at) [
      | inl same ↦
          let upto = t_upto k l (ap is_lt (Less-from_sorted key_cmp (k ∷ l ∷ ks) 0 1 k up (omega arith) (omega arith))) in
          let high = later l (0, omega arith, refl) in
          let t = ap (λ (x : Key). x.t) same in
          last_in frag (l ∷ ks) rest later l (0, omega arith, refl) (omega (arith, upto, high, t, most))
      | inr there ↦ last_in frag (l ∷ ks) rest later j there most
    ]

-- so what is stored of the piece of a consolidation that has a version keeps all rules
pub consolidated_fits : (frame : Frame) (attrs : List Attr) (p : Piece) → IsConsolidated frame attrs p → 1 ≤ length p.versions → FitsPlain frame attrs p.head.frag (stored_for p)
consolidated_fits frame attrs p is some =
    let low = is.span.least in
    let high = is.span.greatest_is in
    merged_fits frame attrs p is some (first_in p.head.frag p.head.origins is.ascend is.span.from_on low.0 low.1 low.2) (last_in p.head.frag p.head.origins is.ascend is.span.up_to high.0 high.1 high.2)

-- ---- what can be stored

-- each piece that a command makes can be stored, where it has a version
pub storable_plain : (frame : Frame) (attrs : List Attr) (p : Piece) → 1 ≤ length p.versions → IsStorable frame attrs p → IsPlainStorable frame attrs p
storable_plain frame attrs p some (inl is) = record { fits = ordinary_fits frame attrs p is; same = ordinary_back frame attrs p is }
storable_plain frame attrs p some (inr is) = record { fits = consolidated_fits frame attrs p is some; same = merged_back frame attrs p is }
