-- What a stored piece that fits says of the versions in its slots.
use Rattle.std.proofs.Common.{◌≡◌, ℕ, ◌<◌, ℤ, Bool, true, false, List, [], ◌∷◌, length, get_or, refl, sym, subst}
use Rattle.std.specs.Prelude.{Option, Some, None, if◌then◌else◌}
use Rattle.std.specs.Option.{IfSome}
use Rattle.std.specs.List.{All}
use Rattle.std.proofs.lemmas.List.Elements.{All-head, All-tail, All-nil, All-cons, All-weaker}
use Rattle.ts_base.specs.declared.heads.Piece.{Piece}
use Rattle.ts_base.specs.declared.heads.Version.{Version}
use Rattle.ts_base.specs.declared.keys.Key.{Key}
use Rattle.ts_base.specs.declared.values.Val.TheVariants.{Null}
use Rattle.ts_base.specs.Values.{width_of, is_integer}
use Rattle.ts_base.specs.Coords.{coords_eq}
use Rattle.ts_wire.specs.Exact.{EachFits}
use Rattle.ts_wire.specs.Numbers.{FitsInt}
use Rattle.ts_schema.specs.declared.attrs.Attr.{Attr}
use Rattle.ts_schema.specs.declared.frames.Frame.{Frame}
use Rattle.ts_plain.specs.declared.stored.StoredCell.{StoredCell}
use Rattle.ts_plain.specs.Plain.{FitsValue, FitsCell}
use Rattle.ts_plain.specs.Writes.{HasPlace, NamesWrites, hulled_for}
use Rattle.ts_column.specs.Spelled.{number_of}
use Rattle.ts_column.specs.Tiles.{is_signed}
use Rattle.ts_sparse.proofs.ColumnLaws.{number_in}
use Rattle.ts_sparse.proofs.FitLaws.{of_versions, each_at}
use Rattle.ts_sparse.proofs.OnePiece.{in_turn_all}
use Rattle.ts_dense.specs.declared.slots.Slots.{Slots}
use Rattle.ts_dense.specs.Dense.{FitsDense}
use Rattle.ts_dense.specs.Laying.{held, versions_at, value_in, NamedIn, NumbersFit, ValuesFitOne, ValuesFit, IsSlots}

-- what holds of versions holds of those in slots
module _ (P : Version → Type 0) where
  abbrev InSlot : Option Version → Type 0
  InSlot slot = IfSome slot P

  in_slots : (coords : List (List ℤ)) (versions : List Version) → All P versions → All InSlot (versions_at coords versions)
  in_slots [] versions all = All-nil InSlot
  in_slots (at ∷ coords) [] all = All-cons InSlot None (versions_at coords []) tt (in_slots coords [] all)
  in_slots (at ∷ coords) (v ∷ versions) all =
      step (coords_eq v.coords at) (in_slots coords versions (All-tail P v versions all)) (in_slots coords (v ∷ versions) all)
    where
      step : (b : Bool) → All InSlot (versions_at coords versions) → All InSlot (versions_at coords (v ∷ versions))
          → All InSlot (if b then Some v ∷ versions_at coords versions else None ∷ versions_at coords (v ∷ versions))
      step true found others = All-cons InSlot (Some v) (versions_at coords versions) (All-head P v versions all) found
      step false found others = All-cons InSlot None (versions_at coords (v ∷ versions)) tt others

  -- so of the slots of a piece
  of_slots : (frame : Frame) (piece : Piece) (slots : Slots) → IsSlots frame piece slots → All P piece.versions → All InSlot (held slots)
  of_slots frame piece slots are all = subst (All InSlot) (sym are.versions) (in_slots _ piece.versions all)

module _ (frame : Frame) (attrs : List Attr) (piece : Piece) (slots : Slots) (are : IsSlots frame piece slots) where
  pub slots_named : NamesWrites piece → NamedIn slots.origins.now (held slots)
  slots_named names =
      let P : Version → Type 0 = λ (v : Version). HasPlace piece.head.origins v.key in
      subst (λ (origins : List Key). NamedIn origins (held slots)) (sym are.origins) (of_slots P frame piece slots are names.known)

  pub slots_fit : FitsDense frame attrs piece.head.frag (hulled_for piece) → ValuesFit attrs (held slots)
  slots_fit fits k a within =
      let rows = in_turn_all (FitsCell frame attrs (hulled_for piece).head) (λ (c : StoredCell). EachFits FitsValue attrs c.row) (λ front c f. f.row) [] (hulled_for piece).cells fits.cells in
      let all = of_versions (λ (c : StoredCell). EachFits FitsValue attrs c.row) piece.head.origins piece.versions rows in
      of_slots (λ (v : Version). FitsValue (get_or attrs k a) (get_or v.row k Null)) frame piece slots are
      (All-weaker (λ (v : Version). EachFits FitsValue attrs v.row) (λ (v : Version). FitsValue (get_or attrs k a) (get_or v.row k Null)) (λ v each. each_at FitsValue attrs v.row k a Null each within) piece.versions all)

pub values_at : (attrs : List Attr) (slots : List (Option Version)) (k : ℕ) (a : Attr) → ValuesFit attrs slots → k < length attrs → a ≡ get_or attrs k a → ValuesFitOne a k slots
values_at attrs slots k a fit within is = subst (λ (x : Attr). ValuesFitOne x k slots) (sym is) (fit k a within)

-- ---- integers have room

number_fits : (a : Attr) (k : ℕ) (slot : Option Version) → is_integer a.ty ≡ true → IfSome slot (λ (v : Version). FitsValue a (get_or v.row k Null)) → FitsInt (width_of a.ty) (is_signed a.ty) (number_of (value_in k slot))
number_fits a k None is fits = number_in a.ty true Null is refl
number_fits a k (Some v) is fits = number_in a.ty a.nullable (get_or v.row k Null) is fits.1

pub numbers_fit : (a : Attr) (slots : List (Option Version)) (k : ℕ) → is_integer a.ty ≡ true → ValuesFitOne a k slots → NumbersFit a.ty k slots
numbers_fit a slots k is fit =
    All-weaker (λ (slot : Option Version). IfSome slot (λ (v : Version). FitsValue a (get_or v.row k Null))) (λ (slot : Option Version). FitsInt (width_of a.ty) (is_signed a.ty) (number_of (value_in k slot)))
    (λ slot f. number_fits a k slot is f) slots fit
