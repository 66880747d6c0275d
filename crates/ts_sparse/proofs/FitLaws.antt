-- What a stored piece that fits says of the versions of the piece.
use Rattle.std.proofs.Common.{◌≡◌, ℕ, zero, suc, ◌<◌, ℤ, pos, true, List, [], ◌∷◌, length, get_or, map, sym, subst, arith}
use Rattle.std.specs.List.{All}
use Rattle.std.proofs.lemmas.List.Elements.{All-head, All-tail, All-nil, All-cons, All-weaker}
use Rattle.ts_base.specs.declared.keys.FragKey.{FragKey}
use Rattle.ts_base.specs.declared.keys.Key.{Key}
use Rattle.ts_base.specs.declared.heads.Piece.{Piece}
use Rattle.ts_base.specs.declared.heads.Version.{Version}
use Rattle.ts_base.specs.declared.values.Val.TheVariants.{Null}
use Rattle.ts_base.specs.Values.{width_of, is_integer}
use Rattle.ts_domain.specs.declared.dims.Dim.{Dim}
use Rattle.ts_wire.specs.Exact.{EachFits}
use Rattle.ts_wire.specs.Numbers.{FitsInt}
use Rattle.ts_schema.specs.declared.attrs.Attr.{Attr}
use Rattle.ts_schema.specs.declared.frames.Frame.{Frame}
use Rattle.ts_plain.specs.declared.stored.StoredCell.{StoredCell}
use Rattle.ts_plain.specs.Plain.{FitsValue, FitsCell}
use Rattle.ts_plain.specs.Writes.{stored_cell, stored_for}
use Rattle.ts_column.specs.Spelled.{number_of}
use Rattle.ts_column.specs.Tiles.{is_signed}
use Rattle.ts_sparse.specs.Sparse.{FitsTypes, FitsSparse}
use Rattle.ts_sparse.specs.Laying.{CoordsFit, ValuesFit}
use Rattle.ts_sparse.proofs.ColumnLaws.{number_in}
use Rattle.ts_sparse.proofs.OnePiece.{in_turn_all}

-- what holds of the cells of versions
pub of_versions : (P : StoredCell → Type 0) (origins : List Key) (versions : List Version) → All P (map (stored_cell origins) versions) → All (λ v. P (stored_cell origins v)) versions
of_versions P origins [] all = All-nil (λ v. P (stored_cell origins v))
of_versions P origins (v ∷ versions) all =
    let cells = map (stored_cell origins) versions in
    All-cons (λ v. P (stored_cell origins v)) v versions (All-head P (stored_cell origins v) cells all) (of_versions P origins versions (All-tail P (stored_cell origins v) cells all))

-- each value fits its item
pub each_at : {D A : Type 0} (F : D → A → Type 0) (ds : List D) (xs : List A) (k : ℕ) (d : D) (e : A) → EachFits F ds xs → k < length ds → F (get_or ds k d) (get_or xs k e)
each_at F [] xs k d e fits within = absurd (omega arith)
each_at F (c ∷ ds) [] k d e fits within = absurd fits
each_at F (c ∷ ds) (x ∷ xs) zero d e fits within = fits.0
each_at F (c ∷ ds) (x ∷ xs) (suc k) d e fits within = each_at F ds xs k d e fits.1 (omega (arith, within))

module _ (frame : Frame) (attrs : List Attr) (frag : FragKey) (piece : Piece) (fits : FitsSparse frame attrs frag (stored_for piece)) where
  pub coords_fit : CoordsFit frame.domain piece.versions
  coords_fit k d within =
      let all = of_versions (FitsTypes frame.domain) piece.head.origins piece.versions fits.typed in
      All-weaker (λ (v : Version). FitsTypes frame.domain (stored_cell piece.head.origins v)) (λ (v : Version). FitsInt (width_of (get_or frame.domain k d).ty) (is_signed (get_or frame.domain k d).ty) (get_or v.coords k (pos 0)))
      (λ v each. each_at (λ (d : Dim) (x : ℤ). FitsInt (width_of d.ty) (is_signed d.ty) x) frame.domain v.coords k d (pos 0) each within) piece.versions all

  pub values_fit : ValuesFit attrs piece.versions
  values_fit k a within =
      let rows = in_turn_all (FitsCell frame attrs (stored_for piece).head) (λ (c : StoredCell). EachFits FitsValue attrs c.row) (λ front c f. f.row) [] (stored_for piece).cells (fits.plain).cells in
      let all = of_versions (λ (c : StoredCell). EachFits FitsValue attrs c.row) piece.head.origins piece.versions rows in
      All-weaker (λ (v : Version). EachFits FitsValue attrs v.row) (λ (v : Version). FitsValue (get_or attrs k a) (get_or v.row k Null))
      (λ v each. each_at FitsValue attrs v.row k a Null each within) piece.versions all

-- ---- at a place

pub integer_at : (dims : List Dim) (k : ℕ) (d : Dim) → All (λ (d : Dim). is_integer d.ty ≡ true) dims → k < length dims → d ≡ get_or dims k d → is_integer d.ty ≡ true
integer_at dims k d ints within is = subst (λ (x : Dim). is_integer x.ty ≡ true) (sym is) (ints k d within)

pub coords_at : (dims : List Dim) (versions : List Version) (k : ℕ) (d : Dim) → CoordsFit dims versions → k < length dims → d ≡ get_or dims k d
    → All (λ (v : Version). FitsInt (width_of d.ty) (is_signed d.ty) (get_or v.coords k (pos 0))) versions
coords_at dims versions k d fit within is = subst (λ (x : Dim). All (λ (v : Version). FitsInt (width_of x.ty) (is_signed x.ty) (get_or v.coords k (pos 0))) versions) (sym is) (fit k d within)

pub values_at : (attrs : List Attr) (versions : List Version) (k : ℕ) (a : Attr) → ValuesFit attrs versions → k < length attrs → a ≡ get_or attrs k a
    → All (λ (v : Version). FitsValue a (get_or v.row k Null)) versions
values_at attrs versions k a fit within is = subst (λ (x : Attr). All (λ (v : Version). FitsValue x (get_or v.row k Null)) versions) (sym is) (fit k a within)

pub numbers_at : (a : Attr) (versions : List Version) (k : ℕ) → is_integer a.ty ≡ true → All (λ (v : Version). FitsValue a (get_or v.row k Null)) versions
    → All (λ (v : Version). FitsInt (width_of a.ty) (is_signed a.ty) (number_of (get_or v.row k Null))) versions
numbers_at a versions k is fit =
    All-weaker (λ (v : Version). FitsValue a (get_or v.row k Null)) (λ (v : Version). FitsInt (width_of a.ty) (is_signed a.ty) (number_of (get_or v.row k Null)))
    (λ v f. number_in a.ty a.nullable (get_or v.row k Null) is f.1) versions fit
