-- What is stored of a piece is what its object stores.
use Rattle.std.proofs.Common.{◌≡◌, ℕ, ◌+◌, ◌-◌, ◌<◌, Bool, true, false, ◌&&◌, nat_lt, nat_eq, List, [], ◌∷◌, ◌++◌, length, map, slice_get, Some, Result, IfOk, refl, sym, ap, ◌∙◌, subst, arith, length-append, IsTrue}
use Rattle.std.specs.List.{All, AllByRecursion}
use Rattle.std.specs.List.Sorted.{IsStrictlySortedBy}
use Rattle.std.specs.Ordering.{is_lt}
use Rattle.std.specs.declared.cmp.Ordering.{Ordering}
use Rattle.std.specs.declared.cmp.Ordering.TheVariants.{Less, Equal, Greater}
use Rattle.std.proofs.lemmas.Bool.{ltb-true, eqb-true}
use Rattle.std.proofs.lemmas.List.{length-map}
use Rattle.std.proofs.lemmas.List.Elements.{All-nil, All-cons}
use Rattle.std.proofs.lemmas.Option.{slice_get-get_or}
use Rattle.std.proofs.lemmas.Result.{IfOk-weaker}
use Rattle.std.proofs.Math.Seq.{get_or-append_seam}
use Rattle.ts_base.specs.declared.keys.Key.{Key}
use Rattle.ts_base.specs.declared.keys.FragKey.{FragKey}
use Rattle.ts_base.specs.declared.heads.Piece.{Piece}
use Rattle.ts_base.specs.declared.heads.Version.{Version}
use Rattle.ts_base.specs.Keys.{key_cmp}
use Rattle.ts_base.specs.Exact.{key_total}
use Rattle.ts_wire.specs.declared.kinds.Kind.TheVariants as kind
use Rattle.ts_wire.specs.Exact.{InTurn}
use Rattle.ts_wire.specs.Envelope.{wrapped}
use Rattle.ts_schema.specs.declared.attrs.Attr.{Attr}
use Rattle.ts_schema.specs.declared.frames.Frame.{Frame}
use Rattle.ts_plain.specs.declared.stored.Side.{Side}
use Rattle.ts_plain.specs.declared.stored.StoredHead.{StoredHead}
use Rattle.ts_plain.specs.declared.stored.StoredCell.{StoredCell}
use Rattle.ts_plain.specs.declared.stored.StoredPiece.{StoredPiece}
use Rattle.ts_plain.specs.Rules.{last_of, may_count, may_be_origin, rises_from, may_end, origin_rises}
use Rattle.ts_plain.specs.Plain.{FitsOrigin, FitsCell, FitsPlain, plain_bytes}
use Rattle.ts_plain.specs.Pieces.{no_key, origin_key, version_in, head_of, piece_of, IsPlainObject}
use Rattle.ts_plain.specs.Writes.{HasPlain, place_of, HasPlace, sides_of, stored_cell, stored_for, NamesWrites}
use Rattle.ts_plain.proofs.Places.{place_of-at}

-- the first of two tests that both hold
first_of_both : (a b : Bool) → (a && b) ≡ true → a ≡ true
first_of_both true b h = refl
first_of_both false b h = h

-- what is below is Less
less_from : (o : Ordering) → is_lt o ≡ true → o ≡ Less
less_from Less h = refl
less_from Equal h = absurd (cc)
less_from Greater h = absurd (cc)

-- the last of a list that was lengthened
pub last_pushed : {X : Type 0} (front : List X) (x : X) → last_of (front ++ x ∷ []) ≡ Some x
last_pushed front x =
    let count : length (front ++ x ∷ []) - 1 ≡ length front = omega (arith, length-append front (x ∷ [])) in
    let room : length front < length (front ++ x ∷ []) = omega (arith, length-append front (x ∷ [])) in
    ap (slice_get (front ++ x ∷ [])) count ∙ slice_get-get_or (front ++ x ∷ []) (length front) x room ∙ ap Some (get_or-append_seam front x [] x)

-- ---- origins

module _ (frag : FragKey) (count : ℕ) where
  -- an origin of a consolidated fragment is above the one before it
  rises : (front : List Key) (x y : Key) → last_of front ≡ Some x → IsTrue (may_be_origin frag true count front y) → key_cmp x y ≡ Less
  rises front x y last h =
      let up : rises_from frag (last_of front) y ≡ true = first_of_both (rises_from frag (last_of front) y) (may_end frag (nat_eq (length front + 1) count) y) h in
      less_from (key_cmp x y) (sym (ap (λ o. rises_from frag o y) last) ∙ up)

  -- what is below the last origin is below all that follow
  below_all : (w x : Key) (front xs : List Key) → last_of front ≡ Some x → ((y : Key) → key_cmp x y ≡ Less → key_cmp w y ≡ Less)
      → InTurn (FitsOrigin frag true count) front xs → AllByRecursion (λ y. key_cmp w y ≡ Less) xs
  below_all w x front [] last carry fits = tt
  below_all w x front (y ∷ ys) last carry fits =
      let here = carry y (rises front x y last fits.0.in_place) in
      (here, below_all w y (front ++ y ∷ []) ys (last_pushed front y) (λ z up. key_total.trans w y z here up) fits.1)

  many_ascend : (front xs : List Key) → InTurn (FitsOrigin frag true count) front xs → IsStrictlySortedBy key_cmp xs
  unfolding IsStrictlySortedBy
  many_ascend front [] fits = tt
  many_ascend front (x ∷ xs) fits = (below_all x x (front ++ x ∷ []) xs (last_pushed front x) (λ y up. up) fits.1, many_ascend (front ++ x ∷ []) xs fits.1)

-- the origins of a fragment ascend
pub origins_ascend : (frag : FragKey) (consolidated : Bool) (origins : List Key) → IsTrue (may_count consolidated (length origins))
    → InTurn (FitsOrigin frag consolidated (length origins)) [] origins → IsStrictlySortedBy key_cmp origins
unfolding IsStrictlySortedBy
origins_ascend frag true origins some fits = many_ascend frag (length origins) [] origins fits
origins_ascend frag false [] some fits = tt
origins_ascend frag false (x ∷ []) some fits = (tt, tt)
origins_ascend frag false (x ∷ y ∷ xs) some fits = absurd (let one = eqb-true (length (x ∷ y ∷ xs)) 1 some in omega arith)

-- ---- cells

-- the origin of a cell has its place
known_origin : (frame : Frame) (attrs : List Attr) (head : StoredHead) (front : List StoredCell) (cell : StoredCell) → FitsCell frame attrs head front cell → cell.origin < length head.origins
known_origin frame attrs head front cell fits =
    ltb-true cell.origin (length head.origins) (first_of_both (nat_lt cell.origin (length head.origins)) (origin_rises frame.dense (last_of front) cell.coords cell.origin) fits.known)

place_back : (frame : Frame) (attrs : List Attr) (head : StoredHead) (front : List StoredCell) (cell : StoredCell) → IsStrictlySortedBy key_cmp head.origins → FitsCell frame attrs head front cell
    → place_of head.origins (origin_key head.origins cell.origin) ≡ cell.origin
place_back frame attrs head front cell up fits = place_of-at head.origins cell.origin no_key up (known_origin frame attrs head front cell fits)

-- the cells of the versions that cells hold are those cells
cells_back : (frame : Frame) (attrs : List Attr) (head : StoredHead) (front cells : List StoredCell) → IsStrictlySortedBy key_cmp head.origins → InTurn (FitsCell frame attrs head) front cells
    → map (stored_cell head.origins) (map (version_in head) cells) ≡ cells
cells_back frame attrs head front [] up fits = refl
cells_back frame attrs head front (cell ∷ cells) up fits =
    let place = place_back frame attrs head front cell up fits.0 in
    let rest = cells_back frame attrs head (front ++ cell ∷ []) cells up fits.1 in
    λ i. record { coords = cell.coords; origin = place i; row = cell.row } ∷ rest i

-- the versions that cells hold can name their writes
versions_known : (frame : Frame) (attrs : List Attr) (head : StoredHead) (front cells : List StoredCell) → IsStrictlySortedBy key_cmp head.origins → InTurn (FitsCell frame attrs head) front cells
    → All (λ (version : Version). HasPlace head.origins version.key) (map (version_in head) cells)
versions_known frame attrs head front [] up fits = All-nil (λ (version : Version). HasPlace head.origins version.key)
versions_known frame attrs head front (cell ∷ cells) up fits =
    let place = place_back frame attrs head front cell up fits.0 in
    let known = known_origin frame attrs head front cell fits.0 in
    All-cons (λ (version : Version). HasPlace head.origins version.key) (version_in head cell) (map (version_in head) cells) (omega arith)
    (versions_known frame attrs head (front ++ cell ∷ []) cells up fits.1)

-- ---- pieces

-- the sides of the corners of a hull are those of the hull
hull_back : (hull : List Side) → sides_of (map (λ side. side.low) hull) (map (λ side. side.high) hull) ≡ hull
hull_back [] = refl
hull_back (side ∷ hull) = let rest = hull_back hull in λ i. side ∷ rest i

-- what is stored of the piece that an object holds is what the object stores
pub stored_back : (frame : Frame) (attrs : List Attr) (frag : FragKey) (stored : StoredPiece) → FitsPlain frame attrs frag stored → stored_for (piece_of frag stored) ≡ stored
unfolding piece_of head_of
stored_back frame attrs frag stored fits =
    let up = origins_ascend frag stored.head.consolidated stored.head.origins fits.head.some_origin fits.head.origins in
    let hull = hull_back stored.head.hull in
    let cells = cells_back frame attrs stored.head [] stored.cells up fits.cells in
    let many : length (map (version_in stored.head) stored.cells) ≡ stored.head.cells = length-map stored.cells (version_in stored.head) ∙ fits.count in
    let head = stored.head in
    λ i. record {
      head = record { schema = head.schema; dense = head.dense; consolidated = head.consolidated; hull = hull i; cells = many i; origins = head.origins };
      cells = cells i;
    }

pub names_of : (frame : Frame) (attrs : List Attr) (frag : FragKey) (stored : StoredPiece) → FitsPlain frame attrs frag stored → NamesWrites (piece_of frag stored)
unfolding piece_of head_of
names_of frame attrs frag stored fits =
    let up = origins_ascend frag stored.head.consolidated stored.head.origins fits.head.some_origin fits.head.origins in
    let low = length-map stored.head.hull (λ (side : Side). side.low) in
    let high = length-map stored.head.hull (λ (side : Side). side.high) in
    record { corners = high ∙ sym low; few = fits.head.few_origins; ascend = up; known = versions_known frame attrs stored.head [] stored.cells up fits.cells }

-- a piece that some object spells can be written
pub names_writes : (frame : Frame) (attrs : List Attr) (piece : Piece) → HasPlain frame attrs piece → NamesWrites piece
names_writes frame attrs piece has = let is = has.spelled in subst NamesWrites (sym is.same) (names_of frame attrs piece.head.frag is.stored is.fits)

-- what is stored of such a piece spells it
stored_is_plain : (frame : Frame) (attrs : List Attr) (piece : Piece) → HasPlain frame attrs piece → IsPlainObject frame attrs piece (wrapped kind.Plain (plain_bytes (stored_for piece)))
stored_is_plain frame attrs piece has =
    let is = has.spelled in
    let same : stored_for piece ≡ is.stored = ap stored_for is.same ∙ stored_back frame attrs piece.head.frag is.stored is.fits in
    record { stored = is.stored; fits = is.fits; few = is.few; spelled = ap (λ stored. wrapped kind.Plain (plain_bytes stored)) same; same = is.same }

-- what a piece is written as
abbrev WrittenAs : Piece → List ℕ → Type 0
WrittenAs piece bytes = bytes ≡ wrapped kind.Plain (plain_bytes (stored_for piece))

-- writing a piece that has a plain object gives one
pub plain_written : {E : Type 0} (frame : Frame) (attrs : List Attr) (piece : Piece) (result : Result (List ℕ) E) → HasPlain frame attrs piece → IfOk result (WrittenAs piece) → IfOk result (IsPlainObject frame attrs piece)
plain_written frame attrs piece result has =
    IfOk-weaker result (WrittenAs piece) (IsPlainObject frame attrs piece) (λ bytes h. subst (IsPlainObject frame attrs piece) (sym h) (stored_is_plain frame attrs piece has))
