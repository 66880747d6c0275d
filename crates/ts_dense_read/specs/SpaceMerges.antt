-- The piece of a consolidation in a dense array can be written in space tiles, with holes alone too.
use Rattle.std.proofs.Common.{◌≡◌, ℕ, zero, suc, Bool, true, false, ◌+◌, ◌^◌, ◌<◌, ◌≤◌, List, [], ◌∷◌, ◌++◌, length, map, get_or, Option, Some, None, inl, inr, refl, sym, ap, ◌∙◌, subst, arith}
use Rattle.std.specs.Prelude.{IsTrue, Contains, nat_eq, not, ◌||◌, ⊤}
use Rattle.std.specs.List.{All}
use Rattle.std.specs.List.Sorted.{IsStrictlySortedBy}
use Rattle.std.specs.Bool.{beq}
use Rattle.std.specs.Ordering.{is_lt}
use Rattle.std.proofs.lemmas.Bool.{true≢false, and_from, le-leb, eq-eqb, ne_eqb}
use Rattle.std.proofs.lemmas.List.{length_push}
use Rattle.std.proofs.lemmas.List.Elements.{All-head, All-tail}
use Rattle.std.proofs.lemmas.Map.Keys.{sorted_tail, Less-from_sorted}
use Rattle.ts_base.specs.declared.keys.Key.{Key}
use Rattle.ts_base.specs.declared.keys.FragKey.{FragKey}
use Rattle.ts_base.specs.declared.heads.Piece.{Piece}
use Rattle.ts_base.specs.declared.heads.Version.{Version}
use Rattle.ts_base.specs.Keys.{key_cmp, key_lt}
use Rattle.ts_domain.specs.Bounds.{cells_between}
use Rattle.ts_wire.specs.Exact.{InTurn}
use Rattle.ts_schema.specs.declared.attrs.Attr.{Attr}
use Rattle.ts_schema.specs.declared.frames.Frame.{Frame}
use Rattle.ts_plain.specs.Rules.{last_of, may_span, is_full, may_hold, may_count, rises_from, may_end}
use Rattle.ts_plain.specs.Plain.{FitsOrigin, FitsHead, FitsCell}
use Rattle.ts_plain.specs.Writes.{sides_of, stored_cell, stored_for, hulled_for}
use Rattle.ts_plain.proofs.WrittenPieces.{last_pushed}
use Rattle.ts_model.specs.Deeds.{IsKey}
use Rattle.ts_model.specs.Consolidated.{IsSpan, IsConsolidated}
use Rattle.ts_model.specs.Merging.{AreSources, merged_piece}
use Rattle.ts_model.proofs.ListLemmas.{Contains-only, Contains-there, Contains-cons}
use Rattle.ts_actor.specs.PlainWrites.{hull_fits, volume_between}
use Rattle.ts_actor.specs.PlainMerges.{LastOf, t_upto, consolidated_fits, merged_back}
use Rattle.ts_dense_read.specs.SpaceCodecs.{IsSpaceStorable}
use Rattle.ts_dense_read.specs.SpaceWrites.{hulled_fits}

-- ---- the origins; these lemmas stand in ts_actor's PlainMerges too, where they are private

-- the first key is stamped as the least one of the fragment, or comes behind the key before
abbrev FirstOf : FragKey → Option Key → List Key → Type 0
FirstOf frag o [] = ⊤
FirstOf frag None (k ∷ ks) = k.t ≡ frag.t1
FirstOf frag (Some before) (k ∷ ks) = key_lt before k ≡ true

-- of keys that ascend the second comes behind the first
next_above : (frag : FragKey) (k : Key) (ks : List Key) → IsStrictlySortedBy key_cmp (k ∷ ks) → FirstOf frag (Some k) ks
next_above frag k [] up = tt
next_above frag k (l ∷ ks) up = ap is_lt (Less-from_sorted key_cmp (k ∷ l ∷ ks) 0 1 k up (omega arith) (omega arith))

-- such a key keeps the rule of its front
rises_in : (frag : FragKey) (o : Option Key) (k : Key) (ks : List Key) → FirstOf frag o (k ∷ ks) → rises_from frag o k ≡ true
rises_in frag None k ks first = eq-eqb k.t frag.t1 first
rises_in frag (Some before) k ks first = first

-- a key keeps the rule of the last one, where the last one does
ends_in : (frag : FragKey) (place count : ℕ) (k : Key) (ks : List Key) → count ≡ place + length (k ∷ ks) → LastOf frag (k ∷ ks) → may_end frag (nat_eq (place + 1) count) k ≡ true
ends_in frag place count k [] all last = ap (λ b. not b || nat_eq k.t frag.t2) (eq-eqb (place + 1) count (omega (arith, all))) ∙ eq-eqb k.t frag.t2 last
ends_in frag place count k (l ∷ ks) all last = ap (λ b. not b || nat_eq k.t frag.t2) (ne_eqb (place + 1) count (λ e. omega (arith, all, e)))

-- the last of keys is the last of those behind the first
last_on : (frag : FragKey) (k : Key) (ks : List Key) → LastOf frag (k ∷ ks) → LastOf frag ks
last_on frag k [] last = tt
last_on frag k (l ∷ ks) last = last

-- keys that ascend, from the least timestamp of the fragment up to its greatest, may be its origins
origins_fit : (frag : FragKey) (count : ℕ) (front ks : List Key) (o : Option Key) → last_of front ≡ o → count ≡ length front + length ks → IsStrictlySortedBy key_cmp ks → All IsKey ks → FirstOf frag o ks → LastOf frag ks
    → InTurn (FitsOrigin frag true count) front ks
origins_fit frag count front [] o last_is all up keys first last = tt
origins_fit frag count front (k ∷ ks) o last_is all up keys first last =
    let own = All-head IsKey k ks keys in (
      record { range = (own.t, own.id); in_place = and_from (rises_from frag (last_of front) k) (may_end frag (nat_eq (length front + 1) count) k) (ap (λ x. rises_from frag x k) last_is ∙ rises_in frag o k ks first) (ends_in frag (length front) count k ks all last) },
      origins_fit frag count (front ++ k ∷ []) ks (Some k) (last_pushed front k) (let more = length_push front k in omega (arith, all, more)) (sorted_tail key_cmp k ks up) (All-tail IsKey k ks keys) (next_above frag k ks up) (last_on frag k ks last),
    )

-- the first origin of a span has its least timestamp
first_in : (frag : FragKey) (ks : List Key) → IsStrictlySortedBy key_cmp ks → ((k : Key) → Contains ks k → frag.t1 ≤ k.t) → (j : Key) → Contains ks j → j.t ≡ frag.t1 → FirstOf frag None ks
first_in frag [] up all j at least = tt
first_in frag (k ∷ ks) up all j at least = by at.0 at.1 at.2
  where
    by : (i : ℕ) → i < length (k ∷ ks) → get_or (k ∷ ks) i j ≡ j → k.t ≡ frag.t1
    by zero less same = ap (λ (x : Key). x.t) same ∙ least
    by (suc i) less same =
        let below : key_lt k j ≡ true = ap is_lt (sym (ap (key_cmp k) same) ∙ Less-from_sorted key_cmp (k ∷ ks) 0 (suc i) j up (omega arith) less) in
        let upto = t_upto k j below in
        let from = all k (0, omega arith, refl) in
        omega (arith, upto, from, least)

-- the last origin of a span has its greatest timestamp
last_in : (frag : FragKey) (ks : List Key) → IsStrictlySortedBy key_cmp ks → ((k : Key) → Contains ks k → k.t ≤ frag.t2) → (j : Key) → Contains ks j → j.t ≡ frag.t2 → LastOf frag ks
last_in frag [] up all j at most = tt
last_in frag (k ∷ []) up all j at most = ap (λ (x : Key). x.t) (Contains-only k j at) ∙ most
last_in frag (k ∷ l ∷ ks) up all j at most =
    let rest = sorted_tail key_cmp k (l ∷ ks) up in
    let later : (x : Key) → Contains (l ∷ ks) x → x.t ≤ frag.t2 = λ x there. all x (Contains-there k (l ∷ ks) x there) in
    elim (Contains-cons k (l ∷ ks) j at) [
      | inl same ↦
          let upto = t_upto k l (ap is_lt (Less-from_sorted key_cmp (k ∷ l ∷ ks) 0 1 k up (omega arith) (omega arith))) in
          let high = later l (0, omega arith, refl) in
          let t = ap (λ (x : Key). x.t) same in
          last_in frag (l ∷ ks) rest later l (0, omega arith, refl) (omega (arith, upto, high, t, most))
      | inr there ↦ last_in frag (l ∷ ks) rest later j there most
    ]

-- so the origins of a span may be those of a consolidated fragment
span_fits : (frag : FragKey) (consolidated : Bool) (ks : List Key) → consolidated ≡ true → IsStrictlySortedBy key_cmp ks → All IsKey ks → IsSpan frag ks → InTurn (FitsOrigin frag consolidated (length ks)) [] ks
span_fits frag consolidated ks single up keys span =
    let low = span.least in
    let high = span.greatest_is in
    subst (λ b. InTurn (FitsOrigin frag b (length ks)) [] ks) (sym single)
    (origins_fit frag (length ks) [] ks None refl (omega arith) up keys (first_in frag ks up span.from_on low.0 low.1 low.2) (last_in frag ks up span.up_to high.0 high.1 high.2))

-- ---- the piece

module _ (frame : Frame) (attrs : List Attr) (p : Piece) (is : IsConsolidated frame attrs p) where
  -- the head keeps all rules, where it counts a cell or more in 64 bits
  hulled_head : 1 ≤ p.head.cells → p.head.cells < 2 ^ 64 → FitsHead frame p.head.frag (hulled_for p).head
  hulled_head some few =
      let origin = is.span.least in
      record {
        schema = (is.schema.t, is.schema.id);
        kind = ap (beq frame.dense) is.dense ∙ same frame.dense;
        span = ap (may_span p.head.frag) is.consolidated;
        hull = hull_fits frame.domain p.head.low p.head.high (is.is_frame).domain.valid is.low is.high is.corners;
        cells = omega (arith, few);
        as_many = ap (λ b. may_hold (is_full frame.dense b) (sides_of p.head.low p.head.high) p.head.cells) is.consolidated ∙ as_many frame.dense;
        few_origins = omega (arith, is.few_origins);
        some_origin = ap (λ b. may_count b (length p.head.origins)) is.consolidated ∙ le-leb 1 (length p.head.origins) (let less = origin.1.1 in omega (arith, less));
        origins = span_fits p.head.frag p.head.consolidated p.head.origins is.consolidated is.ascend is.are_keys is.span;
      }
    where
      same : (b : Bool) → beq b b ≡ true
      same true = refl
      same false = refl

      as_many : (dense : Bool) → IsTrue (may_hold (is_full dense true) (sides_of p.head.low p.head.high) p.head.cells)
      as_many true = le-leb 1 p.head.cells some
      as_many false = le-leb 1 p.head.cells some

  -- its cells keep all rules, if it has any
  merged_cells : InTurn (FitsCell frame attrs (stored_for p).head) [] (stored_for p).cells
  merged_cells = by p.versions refl
    where
      by : (vs : List Version) → p.versions ≡ vs → InTurn (FitsCell frame attrs (stored_for p).head) [] (map (stored_cell p.head.origins) p.versions)
      by [] none = subst (λ us. InTurn (FitsCell frame attrs (stored_for p).head) [] (map (stored_cell p.head.origins) us)) (sym none) tt
      by (v ∷ vs) some = (consolidated_fits frame attrs p is (let long = ap length some in omega (arith, long))).cells

  -- it can be written in space tiles, where its head counts its cells in 32 bits
  pub space_consolidated : frame.dense ≡ true → p.head.cells < 2 ^ 32 → IsSpaceStorable frame attrs p
  space_consolidated dense few =
      let whole = is.whole dense in
      let between : p.head.cells ≡ cells_between p.head.low p.head.high = omega (arith, whole, few) in
      hulled_fits frame attrs p is.is_frame is.are_attrs dense is.dense (hulled_head is.some (omega (arith, few))) merged_cells (merged_back frame attrs p is)
      (between ∙ sym (volume_between p.head.low p.head.high is.corners)) few (λ single. absurd (true≢false (sym is.consolidated ∙ single)))

-- what pieces of a dense array are merged into can be written in space tiles, where its head counts its cells in 32 bits
pub space_merged : (frame : Frame) (attrs : List Attr) (id : ℕ) (p : Piece) (ps : List Piece) → frame.dense ≡ true → AreSources frame attrs (p ∷ ps) → ((q : Piece) → Contains (p ∷ ps) q → IsSpaceStorable frame attrs q)
    → IsConsolidated frame attrs (merged_piece frame id p ps) → (merged_piece frame id p ps).head.cells < 2 ^ 32 → IsSpaceStorable frame attrs (merged_piece frame id p ps)
space_merged frame attrs id p ps dense are each is few = space_consolidated frame attrs (merged_piece frame id p ps) is dense few
