-- Slots in which a hole has the values that are read of it.
use Rattle.std.proofs.Common.{◌≡◌, ℕ, zero, suc, ◌^◌, ◌<◌, ◌⊎◌, inl, inr, pos, Bool, true, false, not, ◌||◌, nat_lt, List, [], ◌∷◌, ◌++◌, length, map, get_or, drop, refl, sym, ap, ◌∙◌, subst, arith}
use Rattle.std.specs.Prelude.{if◌then◌else◌}
use Rattle.std.specs.List.{flat_map, All}
use Rattle.std.proofs.lemmas.Bool.{true≢false, and_parts, and_from, ltb-true, ne_eqb}
use Rattle.std.proofs.lemmas.Str.{IsUtf8-nil}
use Rattle.std.proofs.lemmas.List.Elements.{All-head, All-tail, All-weaker, All-map, All-contains}
use Rattle.ts_base.specs.declared.keys.FragKey.{FragKey}
use Rattle.ts_base.specs.declared.names.Part.TheVariants as part
use Rattle.ts_base.specs.declared.values.Val.{Val}
use Rattle.ts_base.specs.declared.values.Val.TheVariants.{Null, Int, Bytes}
use Rattle.ts_base.specs.declared.values.ValType.{ValType}
use Rattle.ts_base.specs.declared.values.ValType.TheVariants.{Text, Blob}
use Rattle.ts_base.specs.Values.{is_integer, width_of}
use Rattle.ts_value.specs.Fits.{Fits}
use Rattle.ts_value.proofs.FitLaws.{fits_of-Fits}
use Rattle.ts_wire.specs.Exact.{EachFits}
use Rattle.ts_wire.specs.Numbers.{number_bytes, int_bytes}
use Rattle.ts_wire.specs.Fields.{bool_bytes, FitsVal}
use Rattle.ts_schema.specs.declared.attrs.Attr.{Attr}
use Rattle.ts_schema.specs.declared.frames.Frame.{Frame}
use Rattle.ts_plain.specs.declared.stored.StoredHead.{StoredHead}
use Rattle.ts_plain.specs.declared.stored.StoredCell.{StoredCell}
use Rattle.ts_plain.specs.declared.stored.StoredPiece.{StoredPiece}
use Rattle.ts_plain.specs.Rules.{last_of, origin_rises}
use Rattle.ts_plain.specs.Plain.{FitsValue, FitsCell}
use Rattle.ts_plain.specs.Writes.{box_of}
use Rattle.ts_table.specs.Texts.{joined, starts_from}
use Rattle.ts_column.specs.Tiles.{is_there}
use Rattle.ts_column.specs.Spelled.{number_of, text_of}
use Rattle.ts_sparse.specs.Sparse.{value_column}
use Rattle.ts_sparse.proofs.OnePiece.{in_turn_all}
use Rattle.ts_dense.specs.Slots.{coords_over, no_origin, is_hole, slots_of}
use Rattle.ts_dense.specs.Dense.{FitsDense}
use Rattle.ts_dense.proofs.SlotLaws.{IsSlotOf, each_slot}
use Rattle.ts_sparse_read.specs.TileReads.{is_among}
use Rattle.ts_sparse_read.specs.Blanks.{blanked_row}
use Rattle.ts_sparse_read.specs.FoundParts.{value_found, validity_found, attr_found}
use Rattle.ts_dense_read.specs.SlotReads.{is_of_hole, are_of_hole}

-- ---- filled slots

-- the value that is read of a hole, of a type whose values may be null or not
abbrev pub hole_value : ValType → Bool → Val
hole_value ty true = Null
hole_value Text false = Bytes []
hole_value Blob false = Bytes []
hole_value _ false = Int (pos 0)

-- the values that are read of a hole
abbrev pub hole_row : List Attr → List Val
hole_row attrs = map (λ (a : Attr). hole_value a.ty a.nullable) attrs

-- the slot, where a hole has the values that are read of it
abbrev pub filled : List Attr → StoredCell → StoredCell
filled attrs slot = record { coords = slot.coords; origin = slot.origin; row = if is_hole slot then hole_row attrs else slot.row }

-- a hole has no values; another slot has one for each attribute, and is of one of so many writes
abbrev pub IsSlot : List Attr → ℕ → StoredCell → Type 0
IsSlot attrs entries slot = ((is_hole slot ≡ true) × (slot.row ≡ [])) ⊎ ((is_hole slot ≡ false) × EachFits FitsValue attrs slot.row × (slot.origin < entries))

-- ---- the slots of a piece that fits

module _ (frame : Frame) (attrs : List Attr) where
  -- a cell that is stored is a slot that is no hole
  cell_is : (head : StoredHead) → length head.origins < 256 ^ 4 → (front : List StoredCell) (c : StoredCell) → FitsCell frame attrs head front c → IsSlot attrs (length head.origins) c
  cell_is head few front c fits =
      let known = (and_parts (nat_lt c.origin (length head.origins)) (origin_rises frame.dense (last_of front) c.coords c.origin) fits.known).0 in
      let below = ltb-true c.origin (length head.origins) known in
      inr (ne_eqb c.origin no_origin (λ e. omega (arith, few, below, e)), fits.row, below)

  -- each slot is a hole without values, or a cell that is stored
  pub slots_are : (frag : FragKey) (s : StoredPiece) → FitsDense frame attrs frag s → All (IsSlot attrs (length s.head.origins)) (slots_of frame s)
  unfolding slots_of
  slots_are frag s fits =
      let coords = coords_over frame (box_of s.head.hull) in
      All-weaker (IsSlotOf s.cells) (IsSlot attrs (length s.head.origins)) by (slots_of frame s) (each_slot coords s.cells)
    where
      cells : All (IsSlot attrs (length s.head.origins)) s.cells
      cells = in_turn_all (FitsCell frame attrs s.head) (IsSlot attrs (length s.head.origins)) (cell_is s.head (fits.head).few_origins) [] s.cells fits.cells

      by : (slot : StoredCell) → IsSlotOf s.cells slot → IsSlot attrs (length s.head.origins) slot
      by slot (inl e) = subst (IsSlot attrs (length s.head.origins)) (sym e) (inl (refl, refl))
      by slot (inr is) = All-contains (IsSlot attrs (length s.head.origins)) s.cells slot cells is

-- ---- what a hole has

-- the value of a hole may stand under the type
hole_fits : (ty : ValType) (nullable : Bool) → Fits ty nullable (hole_value ty nullable)
hole_fits ty true = refl
hole_fits Text false = IsUtf8-nil
hole_fits Blob false = tt
hole_fits _ false = (refl, record { le = tt }, record { le = tt })

-- it has a spelling
hole_spelled : (ty : ValType) (nullable : Bool) → FitsVal (hole_value ty nullable)
hole_spelled ty true = tt
hole_spelled Text false = (omega arith, λ i. omega arith)
hole_spelled Blob false = (omega arith, λ i. omega arith)
hole_spelled _ false = omega arith

-- its values fit the attributes
pub hole_row_fits : (attrs : List Attr) → EachFits FitsValue attrs (hole_row attrs)
hole_row_fits [] = tt
hole_row_fits (a ∷ attrs) = ((hole_spelled a.ty a.nullable, fits_of-Fits a.ty a.nullable (hole_value a.ty a.nullable) (hole_fits a.ty a.nullable)), hole_row_fits attrs)

-- what is read as that of a hole is one
read_of_hole : (ty : ValType) (nullable : Bool) (a : Attr) → a.nullable ≡ nullable → is_of_hole a (hole_value ty nullable) ≡ true
read_of_hole ty true a may = ap (λ (b : Bool). if b then not (is_there Null) else true) may
read_of_hole Text false a may = ap (λ (b : Bool). if b then not (is_there (Bytes [])) else true) may
read_of_hole Blob false a may = ap (λ (b : Bool). if b then not (is_there (Bytes [])) else true) may
read_of_hole _ false a may = ap (λ (b : Bool). if b then not (is_there (Int (pos 0))) else true) may

-- ---- places in its row

-- a row of no values is null everywhere
null_past : (k : ℕ) → get_or [] k Null ≡ Null
null_past zero = refl
null_past (suc k) = refl

-- the value of a hole at the place of an attribute
hole_at : (all : List Attr) (k : ℕ) (a : Attr) (attrs : List Attr) → drop k all ≡ a ∷ attrs → get_or (hole_row all) k Null ≡ hole_value a.ty a.nullable
hole_at [] zero a attrs at = absurd (omega (arith, ap length at))
hole_at [] (suc k) a attrs at = absurd (omega (arith, ap length at))
hole_at (b ∷ all) zero a attrs at = ap (λ rest. get_or (hole_row rest) 0 Null) at
hole_at (b ∷ all) (suc k) a attrs at = hole_at all k a attrs at

-- the attributes behind one stand at the next place
next_at : (all : List Attr) (k : ℕ) (a : Attr) (attrs : List Attr) → drop k all ≡ a ∷ attrs → drop (suc k) all ≡ attrs
next_at [] zero a attrs at = absurd (omega (arith, ap length at))
next_at [] (suc k) a attrs at = absurd (omega (arith, ap length at))
next_at (b ∷ all) zero a attrs at = ap (drop 1) at
next_at (b ∷ all) (suc k) a attrs at = next_at all k a attrs at

-- the values of a hole of which some are read are those of a hole
pub hole_read : (places : List ℕ) (all : List Attr) (k : ℕ) (attrs : List Attr) → drop k all ≡ attrs → are_of_hole places k attrs (blanked_row places k attrs (hole_row all)) ≡ true
hole_read places all k [] at = refl
hole_read places all k (a ∷ attrs) at =
    and_from (not (is_among places k) || is_of_hole a (if is_among places k then get_or (hole_row all) k Null else Null)) (are_of_hole places (suc k) attrs (blanked_row places (suc k) attrs (hole_row all)))
    (by (is_among places k)) (hole_read places all (suc k) attrs (next_at all k a attrs at))
  where
    by : (b : Bool) → (not b || is_of_hole a (if b then get_or (hole_row all) k Null else Null)) ≡ true
    by true = ap (is_of_hole a) (hole_at all k a attrs at) ∙ read_of_hole a.ty a.nullable a refl
    by false = refl

-- ---- what is found of slots

-- the same is stored of two values
record SameStored (a : Attr) (v w : Val) : Type 0 where
  number : number_of v ≡ number_of w
  text : text_of v ≡ text_of w
  there : a.nullable ≡ true → is_there v ≡ is_there w

-- for a hole the same is stored as for null
null_same : (ty : ValType) (nullable : Bool) → (number_of Null ≡ number_of (hole_value ty nullable)) × (text_of Null ≡ text_of (hole_value ty nullable)) × (nullable ≡ true → is_there Null ≡ is_there (hole_value ty nullable))
null_same ty true = (refl, refl, λ may. refl)
null_same Text false = (refl, refl, λ may. absurd (true≢false (sym may)))
null_same Blob false = (refl, refl, λ may. absurd (true≢false (sym may)))
null_same _ false = (refl, refl, λ may. absurd (true≢false (sym may)))

-- columns of which the same is stored have the same parts of values
value_same : (b : Bool) (k : ℕ) (ty : ValType) (vs ws : List Val) → map number_of vs ≡ map number_of ws → map text_of vs ≡ map text_of ws → value_found b k ty vs ≡ value_found b k ty ws
value_same true k ty vs ws numbers texts = ap (λ ns. record { part = part.Attr k; bytes = flat_map (int_bytes (width_of ty)) ns } ∷ []) numbers
value_same false k ty vs ws numbers texts =
    ap (λ ts. record { part = part.Attr k; bytes = flat_map (number_bytes 8) (starts_from 0 ts) } ∷ (record { part = part.Var k; bytes = joined ts } ∷ [])) texts

-- and the same part that says which values are there
validity_same : (b : Bool) (k : ℕ) (vs ws : List Val) → (b ≡ true → map is_there vs ≡ map is_there ws) → validity_found b k vs ≡ validity_found b k ws
validity_same true k vs ws marks = ap (λ ms. record { part = part.Validity k; bytes = flat_map bool_bytes ms } ∷ []) (marks refl)
validity_same false k vs ws marks = refl

module _ (all : List Attr) (entries : ℕ) where
  -- the same is stored of a slot and of the filled one
  one_same : (k : ℕ) (a : Attr) (attrs : List Attr) → drop k all ≡ a ∷ attrs → (slot : StoredCell) → IsSlot all entries slot → SameStored a (get_or slot.row k Null) (get_or (filled all slot).row k Null)
  one_same k a attrs at slot is = by (is_hole slot) refl is
    where
      -- a null and the value of a hole
      hole_same : SameStored a Null (hole_value a.ty a.nullable)
      hole_same = let same = null_same a.ty a.nullable in record { number = same.0; text = same.1; there = same.2 }

      by : (b : Bool) → is_hole slot ≡ b → IsSlot all entries slot → SameStored a (get_or slot.row k Null) (get_or (if b then hole_row all else slot.row) k Null)
      by false e are = record { number = refl; text = refl; there = λ may. refl }
      by true e (inl none) =
          subst (λ v. SameStored a v (get_or (hole_row all) k Null)) (sym (ap (λ row. get_or row k Null) none.1 ∙ null_past k))
          (subst (SameStored a Null) (sym (hole_at all k a attrs at)) hole_same)
      by true e (inr some) = absurd (true≢false (sym e ∙ some.0))

  -- so it is in a column of slots
  columns_same : (k : ℕ) (a : Attr) (attrs : List Attr) → drop k all ≡ a ∷ attrs → (tile : List StoredCell) → All (IsSlot all entries) tile
      → (map number_of (value_column k tile) ≡ map number_of (value_column k (map (filled all) tile))) × (map text_of (value_column k tile) ≡ map text_of (value_column k (map (filled all) tile)))
      × (a.nullable ≡ true → map is_there (value_column k tile) ≡ map is_there (value_column k (map (filled all) tile)))
  columns_same k a attrs at [] are = (refl, refl, λ may. refl)
  columns_same k a attrs at (c ∷ tile) are =
      let one = one_same k a attrs at c (All-head (IsSlot all entries) c tile are) in
      let others = columns_same k a attrs at tile (All-tail (IsSlot all entries) c tile are) in
      ((λ i. one.number i ∷ others.0 i), (λ i. one.text i ∷ others.1 i), λ may. λ i. one.there may i ∷ others.2 may i)

  -- what is found of slots is what is found of them where they are filled
  pub found_filled : (k : ℕ) (attrs : List Attr) → drop k all ≡ attrs → (tile : List StoredCell) → All (IsSlot all entries) tile → attr_found k attrs tile ≡ attr_found k attrs (map (filled all) tile)
  found_filled k [] at tile are = refl
  found_filled k (a ∷ attrs) at tile are =
      let same = columns_same k a attrs at tile are in
      let values = value_same (is_integer a.ty) k a.ty (value_column k tile) (value_column k (map (filled all) tile)) same.0 same.1 in
      let marks = validity_same a.nullable k (value_column k tile) (value_column k (map (filled all) tile)) same.2 in
      let others = found_filled (suc k) attrs (next_at all k a attrs at) tile are in
      λ i. values i ++ (marks i ++ others i)

  -- the values of a filled slot fit the attributes
  filled_fits : (slot : StoredCell) → IsSlot all entries slot → EachFits FitsValue all (filled all slot).row
  filled_fits slot is = by (is_hole slot) refl is
    where
      by : (b : Bool) → is_hole slot ≡ b → IsSlot all entries slot → EachFits FitsValue all (if b then hole_row all else slot.row)
      by true e are = hole_row_fits all
      by false e (inl none) = absurd (true≢false (sym none.0 ∙ e))
      by false e (inr some) = some.1

  -- the values of filled slots fit the attributes
  pub all_fit : (tile : List StoredCell) → All (IsSlot all entries) tile → All (λ (c : StoredCell). EachFits FitsValue all c.row) (map (filled all) tile)
  all_fit tile are =
      All-map (λ (c : StoredCell). EachFits FitsValue all c.row) (filled all) tile
      (All-weaker (IsSlot all entries) (λ (c : StoredCell). EachFits FitsValue all (filled all c).row) filled_fits tile are)
