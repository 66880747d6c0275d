-- A tile is decoded exactly: what is decoded was spelled so, and what is spelled is decoded.
use Rattle.std.proofs.Common.{◌≡◌, ℕ, zero, suc, ◌^◌, ◌<◌, ◌≤◌, Bool, true, false, ℤ, pos, List, [], ◌∷◌, ◌++◌, length, map, Result, Ok, Err, inl, inr, refl, sym, ap, subst, ◌∙◌, arith}
use Rattle.std.specs.Prelude.{IsTrue, IfOk}
use Rattle.std.specs.Ordering.{int_eq}
use Rattle.std.specs.List.{flat_map, All}
use Rattle.std.proofs.lemmas.Bool.Decides.{nat_tests}
use Rattle.std.proofs.lemmas.Int.{ints}
use Rattle.std.proofs.lemmas.List.{nil_from_length, length-map}
use Rattle.std.proofs.lemmas.Str.{IsUtf8-nil}
use Rattle.std.proofs.lemmas.List.Elements.{All-nil, All-cons, All-head, All-tail}
use Rattle.ts_base.specs.declared.values.Val.{Val}
use Rattle.ts_base.specs.declared.values.Val.TheVariants.{Null, Int, Bytes}
use Rattle.ts_base.specs.declared.values.ValType.{ValType}
use Rattle.ts_base.specs.declared.values.ValType.TheVariants.{I8, I16, I32, I64, U8, U16, U32, U64, Text, Blob}
use Rattle.ts_base.specs.Values.{is_integer, width_of}
use Rattle.ts_value.specs.Fits.{Fits, fits_of}
use Rattle.ts_value.proofs.FitLaws.{fits_of-Fits, Fits-fits_of}
use Rattle.ts_value.proofs.Texts.{is_utf8_true}
use Rattle.ts_wire.specs.Place.{place, given, each_at, whole}
use Rattle.ts_wire.specs.Exact.{IsBytes, EachFits}
use Rattle.ts_wire.specs.Numbers.{number_bytes, int_bytes, FitsInt}
use Rattle.ts_wire.specs.Fields.{bool_bytes}
use Rattle.ts_wire.proofs.Laws.{whole_found, whole_only, given_exact, EachFits-length}
use Rattle.ts_table.specs.Texts.{first_or, RisesTo, joined, starts_from}
use Rattle.ts_column.specs.declared.tiles.Tile.{Tile}
use Rattle.ts_column.specs.declared.tiles.TileFault.{TileFault}
use Rattle.ts_column.specs.Tiles.{is_signed, ints_in, starts_in, lengths_to, text_at, texts_of, is_there, cell_at, cells_in, TileBreak, InFixed, InVar, InValidity, in_part, then_part, numbers_in, byte_lists_in, stored_in, tile_vals, DecodesTile}
use Rattle.ts_column.specs.Spelled.{number_of, text_of, fixed_bytes, var_bytes, validity_bytes, tile_of, IsSpelled}
use Rattle.ts_column.proofs.CellLaws.{IsCell, mark_bytes, cells_exact}
use Rattle.ts_column.proofs.IntLaws.{fits_width, fits_range, ints_exact, each_alone, all_in_turn}
use Rattle.ts_column.proofs.TextLaws.{starts_exact, starts_rise, starts_in_turn, starts_count, IsText, texts_exact, starts_back, lengths_back, joined_texts}

-- ---- parts

pub part_ok : {A : Type 0} (part : ℕ → TileBreak) (r : Result A ℕ) (x : A) → in_part part r ≡ Ok x → r ≡ Ok x
part_ok part (Ok y) x h = let same : y ≡ x = cc in ap Ok same
part_ok part (Err at) x h = absurd (cc)

pub then_ok : {A B : Type 0} (r : Result A TileBreak) (next : A → Result B TileBreak) (y : B) → then_part r next ≡ Ok y → (x : A) × (r ≡ Ok x) × (next x ≡ Ok y)
then_ok (Ok x) next y h = (x, refl, h)
then_ok (Err e) next y h = absurd (cc)

then_on : {A B : Type 0} (part : ℕ → TileBreak) (r : Result A ℕ) (next : A → Result B TileBreak) (x : A) → r ≡ Ok x → then_part (in_part part r) next ≡ next x
then_on part r next x h = ap (λ q. then_part (in_part part q) next) h

-- nothing stands in an empty part
nothing_found : {A : Type 0} (x y : A) (bytes : List ℕ) → IsBytes bytes → whole (given x) (place bytes 0) ≡ Ok y → (bytes ≡ []) × (y ≡ x)
nothing_found x y bytes all h = whole_found (given_exact x) (place bytes 0) y all h

-- ---- marks

-- the values of cells with these stored values
abbrev AreCells : Bool → List Val → List Val → Type 0
AreCells true stored vals = EachFits IsCell stored vals
AreCells false stored vals = vals ≡ stored

marks_of : (vals : List Val) → flat_map mark_bytes vals ≡ flat_map bool_bytes (map is_there vals)
marks_of [] = refl
marks_of (v ∷ vals) = ap (λ more. bool_bytes (is_there v) ++ more) (marks_of vals)

marks_spelled : (nullable : Bool) (stored vals : List Val) (bytes : List ℕ) → IsBytes bytes → cells_in nullable stored bytes ≡ Ok vals → (bytes ≡ validity_bytes nullable vals) × AreCells nullable stored vals
marks_spelled true stored vals bytes all h = let was = whole_found (cells_exact stored) (place bytes 0) vals all h in (was.0 ∙ marks_of vals, was.1)
marks_spelled false stored vals bytes all h = nothing_found stored vals bytes all h

marks_back : (nullable : Bool) (stored vals : List Val) → AreCells nullable stored vals → cells_in nullable stored (validity_bytes nullable vals) ≡ Ok vals
marks_back true stored vals are = ap (λ bytes. whole (each_at cell_at stored) (place bytes 0)) (sym (marks_of vals)) ∙ whole_only (cells_exact stored) vals 0 are
marks_back false stored vals are = ap Ok (sym are)

-- ---- integers

no_bytes : (ty : ValType) (nullable : Bool) (bytes : List ℕ) → is_integer ty ≡ true → Fits ty nullable (Bytes bytes) → ⊥
no_bytes Text nullable bytes is fits = cc
no_bytes Blob nullable bytes is fits = cc
no_bytes _ nullable bytes is fits = fits

zero_fits : (ty : ValType) → is_integer ty ≡ true → FitsInt (width_of ty) (is_signed ty) (pos 0)
zero_fits I8 is = omega arith
zero_fits I16 is = omega arith
zero_fits I32 is = omega arith
zero_fits I64 is = omega arith
zero_fits U8 is = omega arith
zero_fits U16 is = omega arith
zero_fits U32 is = omega arith
zero_fits U64 is = omega arith
zero_fits Text is = cc
zero_fits Blob is = cc

pub widths : (ty : ValType) → is_integer ty ≡ true → (1 ≤ width_of ty) × (width_of ty ≤ 16)
widths I8 is = (omega arith, omega arith)
widths I16 is = (omega arith, omega arith)
widths I32 is = (omega arith, omega arith)
widths I64 is = (omega arith, omega arith)
widths U8 is = (omega arith, omega arith)
widths U16 is = (omega arith, omega arith)
widths U32 is = (omega arith, omega arith)
widths U64 is = (omega arith, omega arith)
widths Text is = absurd (cc)
widths Blob is = absurd (cc)

is_zero : (z : ℤ) → int_eq z (pos 0) ≡ true → z ≡ pos 0
is_zero z h = grind (arith, ints, nat_tests)

-- a value of an integer type, from its stored integer
int_cell : (ty : ValType) (nullable : Bool) (z : ℤ) (v : Val) → is_integer ty ≡ true → FitsInt (width_of ty) (is_signed ty) z → IsCell (Int z) v → (v ≡ Null → IsTrue nullable) → (number_of v ≡ z) × Fits ty nullable v
int_cell ty nullable z v is fits cell null = elim cell [
  | inl same ↦
      let range = fits_range ty z is fits in
      let P : Val → Type 0 = λ w. (number_of w ≡ z) × Fits ty nullable w in
      subst P (sym same) (refl, (is, range.0, range.1))
  | inr none ↦
      let P : Val → Type 0 = λ w. (number_of w ≡ z) × Fits ty nullable w in
      subst P (sym none.0) (sym (is_zero z none.1), null none.0)
]

int_cells : (ty : ValType) (nullable : Bool) (zs : List ℤ) (vals : List Val) → is_integer ty ≡ true → All (FitsInt (width_of ty) (is_signed ty)) zs → AreCells nullable (map Int zs) vals
    → (map number_of vals ≡ zs) × All (Fits ty nullable) vals
int_cells ty true [] [] is fits cells = (refl, All-nil (Fits ty true))
int_cells ty true [] (v ∷ vals) is fits cells = absurd cells
int_cells ty true (z ∷ zs) [] is fits cells = absurd cells
int_cells ty true (z ∷ zs) (v ∷ vals) is fits cells =
    let F = FitsInt (width_of ty) (is_signed ty) in
    let one = int_cell ty true z v is (All-head F z zs fits) cells.0 (λ _. refl) in
    let more = int_cells ty true zs vals is (All-tail F z zs fits) cells.1 in
    (rw (one.0, more.0) refl, All-cons (Fits ty true) v vals one.1 more.1)
int_cells ty false zs vals is fits cells =
    let P : List Val → Type 0 = λ ws. (map number_of ws ≡ zs) × All (Fits ty false) ws in
    subst P (sym cells) (numbers zs, all zs fits)
  where
    numbers : (zs : List ℤ) → map number_of (map Int zs) ≡ zs
    numbers [] = refl
    numbers (z ∷ zs) = ap (λ ys. z ∷ ys) (numbers zs)

    all : (zs : List ℤ) → All (FitsInt (width_of ty) (is_signed ty)) zs → All (Fits ty false) (map Int zs)
    all [] fits = All-nil (Fits ty false)
    all (z ∷ zs) fits =
        let F = FitsInt (width_of ty) (is_signed ty) in
        let range = fits_range ty z is (All-head F z zs fits) in
        All-cons (Fits ty false) (Int z) (map Int zs) (is, range.0, range.1) (all zs (All-tail F z zs fits))

-- the stored integer of a value
pub number_fits : (ty : ValType) (nullable : Bool) (v : Val) → is_integer ty ≡ true → Fits ty nullable v → FitsInt (width_of ty) (is_signed ty) (number_of v)
number_fits ty nullable Null is fits = zero_fits ty is
number_fits ty nullable (Int z) is fits = fits_width ty z is fits.1 fits.2
number_fits ty nullable (Bytes bytes) is fits = absurd (no_bytes ty nullable bytes is fits)

numbers_fit : (ty : ValType) (nullable : Bool) (vals : List Val) → is_integer ty ≡ true → All (Fits ty nullable) vals → All (FitsInt (width_of ty) (is_signed ty)) (map number_of vals)
numbers_fit ty nullable [] is fits = All-nil (FitsInt (width_of ty) (is_signed ty))
numbers_fit ty nullable (v ∷ vals) is fits =
    All-cons (FitsInt (width_of ty) (is_signed ty)) (number_of v) (map number_of vals) (number_fits ty nullable v is (All-head (Fits ty nullable) v vals fits))
    (numbers_fit ty nullable vals is (All-tail (Fits ty nullable) v vals fits))

number_cell : (ty : ValType) (nullable : Bool) (v : Val) → is_integer ty ≡ true → Fits ty nullable v → IsCell (Int (number_of v)) v × (nullable ≡ false → v ≡ Int (number_of v))
number_cell ty nullable Null is fits = (inr (refl, refl), λ h. absurd (cc))
number_cell ty nullable (Int z) is fits = (inl refl, λ h. refl)
number_cell ty nullable (Bytes bytes) is fits = absurd (no_bytes ty nullable bytes is fits)

number_cells : (ty : ValType) (nullable : Bool) (vals : List Val) → is_integer ty ≡ true → All (Fits ty nullable) vals → AreCells nullable (map Int (map number_of vals)) vals
number_cells ty true [] is fits = tt
number_cells ty true (v ∷ vals) is fits = ((number_cell ty true v is (All-head (Fits ty true) v vals fits)).0, number_cells ty true vals is (All-tail (Fits ty true) v vals fits))
number_cells ty false [] is fits = refl
number_cells ty false (v ∷ vals) is fits =
    let first = (number_cell ty false v is (All-head (Fits ty false) v vals fits)).1 refl in
    let rest = number_cells ty false vals is (All-tail (Fits ty false) v vals fits) in
    ap (λ w. w ∷ vals) first ∙ ap (λ ws. Int (number_of v) ∷ ws) rest

-- ---- texts and blobs

-- the stored bytes of a value
text_cell : (ty : ValType) (nullable : Bool) (n : ℕ) (d v : Val) → is_integer ty ≡ false → IsText ty n d → IsCell d v → (v ≡ Null → IsTrue nullable) → (text_of v ≡ text_of d) × Fits ty nullable v
text_cell ty nullable n d v is text cell null = go d text.0 text.1 text.3 cell
  where
    fits_any : (bytes : List ℕ) → fits_of ty false (Bytes bytes) ≡ true → Fits ty nullable (Bytes bytes)
    fits_any bytes h = any_null ty nullable bytes (Fits-fits_of ty false (Bytes bytes) h)
      where
        any_null : (ty : ValType) (nullable : Bool) (bytes : List ℕ) → Fits ty false (Bytes bytes) → Fits ty nullable (Bytes bytes)
        any_null Text nullable bytes fits = fits
        any_null Blob nullable bytes fits = tt
        any_null _ nullable bytes fits = absurd fits

    go : (d : Val) (bytes : List ℕ) → d ≡ Bytes bytes → fits_of ty false d ≡ true → IsCell d v → (text_of v ≡ text_of d) × Fits ty nullable v
    go Null bytes same fits cell = absurd (cc)
    go (Int z) bytes same fits cell = absurd (cc)
    go (Bytes b) bytes same fits cell = elim cell [
      | inl there ↦
          let P : Val → Type 0 = λ w. (text_of w ≡ b) × Fits ty nullable w in
          subst P (sym there) (refl, fits_any b fits)
      | inr none ↦
          let P : Val → Type 0 = λ w. (text_of w ≡ b) × Fits ty nullable w in
          let empty : length b ≡ 0 = grind (arith, nat_tests, none.1) in
          subst P (sym none.0) (sym (nil_from_length b empty), null none.0)
    ]

text_cells : (ty : ValType) (nullable : Bool) (lengths : List ℕ) (stored vals : List Val) → is_integer ty ≡ false → EachFits (IsText ty) lengths stored → AreCells nullable stored vals
    → (map text_of vals ≡ map text_of stored) × All (Fits ty nullable) vals
text_cells ty true [] [] [] is texts cells = (refl, All-nil (Fits ty true))
text_cells ty true [] [] (v ∷ vals) is texts cells = absurd cells
text_cells ty true [] (d ∷ stored) vals is texts cells = absurd texts
text_cells ty true (n ∷ lengths) [] vals is texts cells = absurd texts
text_cells ty true (n ∷ lengths) (d ∷ stored) [] is texts cells = absurd cells
text_cells ty true (n ∷ lengths) (d ∷ stored) (v ∷ vals) is texts cells =
    let one = text_cell ty true n d v is texts.0 cells.0 (λ _. refl) in
    let more = text_cells ty true lengths stored vals is texts.1 cells.1 in
    (rw (one.0, more.0) refl, All-cons (Fits ty true) v vals one.1 more.1)
text_cells ty false lengths stored vals is texts cells =
    let P : List Val → Type 0 = λ ws. (map text_of ws ≡ map text_of stored) × All (Fits ty false) ws in
    subst P (sym cells) (refl, all lengths stored texts)
  where
    all : (lengths : List ℕ) (stored : List Val) → EachFits (IsText ty) lengths stored → All (Fits ty false) stored
    all [] [] texts = All-nil (Fits ty false)
    all [] (d ∷ stored) texts = absurd texts
    all (n ∷ lengths) [] texts = absurd texts
    all (n ∷ lengths) (d ∷ stored) texts = All-cons (Fits ty false) d stored (Fits-fits_of ty false d texts.0.3) (all lengths stored texts.1)

-- the texts of values are those of their types
text_fits : (ty : ValType) (nullable : Bool) (v : Val) → is_integer ty ≡ false → Fits ty nullable v → IsBytes (text_of v) → IsText ty (length (text_of v)) (Bytes (text_of v))
text_fits ty nullable v is fits bytes = (text_of v, refl, (refl, bytes), test ty nullable v is fits)
  where
    test : (ty : ValType) (nullable : Bool) (v : Val) → is_integer ty ≡ false → Fits ty nullable v → fits_of ty false (Bytes (text_of v)) ≡ true
    test Text nullable Null is fits = is_utf8_true [] IsUtf8-nil
    test Text nullable (Int z) is fits = absurd (cc)
    test Text nullable (Bytes b) is fits = fits_of-Fits Text false (Bytes b) fits
    test Blob nullable v is fits = refl
    test _ nullable v is fits = absurd (cc)

texts_fit : (ty : ValType) (nullable : Bool) (vals : List Val) → is_integer ty ≡ false → All (Fits ty nullable) vals → IsBytes (joined (map text_of vals)) → EachFits (IsText ty) (map length (map text_of vals)) (map Bytes (map text_of vals))
texts_fit ty nullable [] is fits bytes = tt
texts_fit ty nullable (v ∷ vals) is fits bytes = (
  text_fits ty nullable v is (All-head (Fits ty nullable) v vals fits) (front_bytes (text_of v) (joined (map text_of vals)) bytes),
  texts_fit ty nullable vals is (All-tail (Fits ty nullable) v vals fits) (back_bytes (text_of v) (joined (map text_of vals)) bytes),
)
  where
    front_bytes : (a b : List ℕ) → IsBytes (a ++ b) → IsBytes a
    front_bytes [] b all i = omega arith
    front_bytes (x ∷ a) b all zero = all 0
    front_bytes (x ∷ a) b all (suc i) = front_bytes a b (λ j. all (suc j)) i

    back_bytes : (a b : List ℕ) → IsBytes (a ++ b) → IsBytes b
    back_bytes [] b all = all
    back_bytes (x ∷ a) b all = back_bytes a b (λ j. all (suc j))

value_cell : (ty : ValType) (nullable : Bool) (v : Val) → is_integer ty ≡ false → Fits ty nullable v → IsCell (Bytes (text_of v)) v × (nullable ≡ false → v ≡ Bytes (text_of v))
value_cell ty nullable Null is fits = (inr (refl, refl), λ h. absurd (cc))
value_cell ty nullable (Int z) is fits = absurd (cc)
value_cell ty nullable (Bytes bytes) is fits = (inl refl, λ h. refl)

value_cells : (ty : ValType) (nullable : Bool) (vals : List Val) → is_integer ty ≡ false → All (Fits ty nullable) vals → AreCells nullable (map Bytes (map text_of vals)) vals
value_cells ty true [] is fits = tt
value_cells ty true (v ∷ vals) is fits = ((value_cell ty true v is (All-head (Fits ty true) v vals fits)).0, value_cells ty true vals is (All-tail (Fits ty true) v vals fits))
value_cells ty false [] is fits = refl
value_cells ty false (v ∷ vals) is fits =
    let first = (value_cell ty false v is (All-head (Fits ty false) v vals fits)).1 refl in
    let rest = value_cells ty false vals is (All-tail (Fits ty false) v vals fits) in
    ap (λ w. w ∷ vals) first ∙ ap (λ ws. Bytes (text_of v) ∷ ws) rest

-- ---- whole tiles

-- what is spelled is decoded
pub tile_back : (ty : ValType) (nullable : Bool) (vals : List Val) → All (Fits ty nullable) vals → IsBytes (var_bytes (is_integer ty) vals) → length (var_bytes (is_integer ty) vals) < 2 ^ 64
    → tile_vals ty nullable (length vals) (tile_of ty nullable vals) ≡ Ok vals
unfolding tile_vals tile_of numbers_in byte_lists_in ints_in starts_in texts_of
tile_back ty nullable vals fits bytes room = go (is_integer ty) refl bytes room
  where
    marked : (b : Bool) (stored : List Val) → stored_in b ty (length vals) (record { fixed = fixed_bytes b ty vals; var = var_bytes b vals; validity = validity_bytes nullable vals }) ≡ Ok stored → AreCells nullable stored vals
        → then_part (stored_in b ty (length vals) (record { fixed = fixed_bytes b ty vals; var = var_bytes b vals; validity = validity_bytes nullable vals })) (λ s. in_part InValidity (cells_in nullable s (validity_bytes nullable vals))) ≡ Ok vals
    marked b stored is cells =
        ap (λ r. then_part r (λ s. in_part InValidity (cells_in nullable s (validity_bytes nullable vals)))) is ∙ ap (in_part InValidity) (marks_back nullable stored vals cells)

    go : (b : Bool) → is_integer ty ≡ b → IsBytes (var_bytes b vals) → length (var_bytes b vals) < 2 ^ 64
        → then_part (stored_in b ty (length vals) (record { fixed = fixed_bytes b ty vals; var = var_bytes b vals; validity = validity_bytes nullable vals })) (λ s. in_part InValidity (cells_in nullable s (validity_bytes nullable vals))) ≡ Ok vals
    go true is bytes room =
        let w = widths ty is in
        let zs = map number_of vals in
        let count : length zs ≡ length vals = length-map vals number_of in
        let all = all_in_turn (FitsInt (width_of ty) (is_signed ty)) [] zs (numbers_fit ty nullable vals is fits) in
        let found = whole_only (ints_exact (width_of ty) (is_signed ty) (length vals) w.0 w.1) zs 0 (count, all) in
        marked true (map Int zs) (then_on InFixed _ _ zs found) (number_cells ty nullable vals is fits)
    go false is bytes room =
        let texts = map text_of vals in
        let end = length (joined texts) in
        let count : length (starts_from 0 texts) ≡ length vals = starts_count 0 texts ∙ length-map vals text_of in
        let starts = whole_only (starts_exact end (length vals)) (starts_from 0 texts) 0 (count, starts_in_turn texts room) in
        let lengths : lengths_to (starts_from 0 texts) end ≡ map length texts = lengths_back 0 end texts (omega arith) in
        let spelled : flat_map text_of (map Bytes texts) ≡ joined texts = flat texts in
        let found : whole (each_at (text_at ty) (lengths_to (starts_from 0 texts) end)) (place (joined texts) 0) ≡ Ok (map Bytes texts) =
        ap (λ ls. whole (each_at (text_at ty) ls) (place (joined texts) 0)) lengths ∙ ap (λ t. whole (each_at (text_at ty) (map length texts)) (place t 0)) (sym spelled)
        ∙ whole_only (texts_exact ty (map length texts)) (map Bytes texts) 0 (texts_fit ty nullable vals is fits bytes) in
        marked false (map Bytes texts) (then_on InFixed _ _ (starts_from 0 texts) starts ∙ ap (in_part InVar) found) (value_cells ty nullable vals is fits)
      where
        flat : (ts : List (List ℕ)) → flat_map text_of (map Bytes ts) ≡ joined ts
        flat [] = refl
        flat (t ∷ ts) = ap (λ more. t ++ more) (flat ts)

-- what is decoded was spelled so, and fits
pub tile_spelled : (ty : ValType) (nullable : Bool) (count : ℕ) (tile : Tile) (vals : List Val) → IsBytes tile.fixed → IsBytes tile.var → IsBytes tile.validity
    → tile_vals ty nullable count tile ≡ Ok vals → IsSpelled ty nullable count tile vals
unfolding tile_vals tile_of numbers_in byte_lists_in ints_in starts_in texts_of
tile_spelled ty nullable count tile vals fixed var validity h =
    let was = go (is_integer ty) refl (then_ok _ _ vals h) in
    record { spelled = was.0; many = was.1; fits = was.2 }
  where
    cells_long : (nullable : Bool) (stored vals : List Val) → AreCells nullable stored vals → length vals ≡ length stored
    cells_long true stored vals cells = EachFits-length IsCell stored vals cells
    cells_long false stored vals cells = ap length cells

    parts : (b : Bool) → tile.fixed ≡ fixed_bytes b ty vals → tile.var ≡ var_bytes b vals → tile.validity ≡ validity_bytes nullable vals
        → tile ≡ record { fixed = fixed_bytes b ty vals; var = var_bytes b vals; validity = validity_bytes nullable vals }
    parts b f v m =
        ap (λ (x : List ℕ). record { fixed = x; var = tile.var; validity = tile.validity }) f ∙ ap (λ (x : List ℕ). record { fixed = fixed_bytes b ty vals; var = x; validity = tile.validity }) v
        ∙ ap (λ (x : List ℕ). record { fixed = fixed_bytes b ty vals; var = var_bytes b vals; validity = x }) m

    go : (b : Bool) → is_integer ty ≡ b → (stored : List Val) × (stored_in b ty count tile ≡ Ok stored) × (in_part InValidity (cells_in nullable stored tile.validity) ≡ Ok vals)
        → (tile ≡ record { fixed = fixed_bytes b ty vals; var = var_bytes b vals; validity = validity_bytes nullable vals }) × (length vals ≡ count) × All (Fits ty nullable) vals
    go true is found =
        let w = widths ty is in
        let marks = marks_spelled nullable found.0 vals tile.validity validity (part_ok InValidity _ vals found.2) in
        let numbers = then_ok _ _ found.0 found.1 in
        let zs = numbers.0 in
        let ints = whole_found (ints_exact (width_of ty) (is_signed ty) count w.0 w.1) (place tile.fixed 0) zs fixed (part_ok InFixed _ zs numbers.1) in
        let none = nothing_found (map Int zs) found.0 tile.var var (part_ok InVar _ found.0 numbers.2) in
        let P : List Val → Type 0 = λ stored. AreCells nullable stored vals in
        let cells = subst P none.1 marks.1 in
        let back = int_cells ty nullable zs vals is (each_alone (FitsInt (width_of ty) (is_signed ty)) [] zs ints.1.1) cells in
        let long = cells_long nullable (map Int zs) vals cells in
        (parts true (ints.0 ∙ ap (flat_map (int_bytes (width_of ty))) (sym back.0)) none.0 marks.0, long ∙ length-map zs Int ∙ ints.1.0, back.1)
    go false is found =
        let marks = marks_spelled nullable found.0 vals tile.validity validity (part_ok InValidity _ vals found.2) in
        let starts = then_ok _ _ found.0 found.1 in
        let end = length tile.var in
        let were = whole_found (starts_exact end count) (place tile.fixed 0) starts.0 fixed (part_ok InFixed _ starts.0 starts.1) in
        let rise = starts_rise end starts.0 were.1.1 in
        let texts = whole_found (texts_exact ty (lengths_to starts.0 end)) (place tile.var 0) found.0 var (part_ok InVar _ found.0 starts.2) in
        let back = text_cells ty nullable (lengths_to starts.0 end) found.0 vals is texts.1 marks.1 in
        let same : starts_from 0 (map text_of found.0) ≡ starts.0 = from_zero starts.0 end found.0 rise.1 rise.0 texts.1 in
        let long = cells_long nullable found.0 vals marks.1 in
        let as_many : length found.0 ≡ length starts.0 = sym (length-map found.0 text_of) ∙ sym (starts_count 0 (map text_of found.0)) ∙ ap length same in (
          parts false (were.0 ∙ ap (flat_map (number_bytes 8)) (sym same) ∙ ap (λ ts. flat_map (number_bytes 8) (starts_from 0 ts)) (sym back.0))
              (texts.0 ∙ sym (joined_texts found.0) ∙ ap joined (sym back.0)) marks.0,
          long ∙ as_many ∙ were.1.0,
          back.1,
        )
      where
        from_zero : (starts : List ℕ) (end : ℕ) (stored : List Val) → first_or starts 0 ≡ 0 → RisesTo starts end → EachFits (IsText ty) (lengths_to starts end) stored → starts_from 0 (map text_of stored) ≡ starts
        from_zero [] end [] first rises texts = refl
        from_zero [] end (v ∷ stored) first rises texts = absurd texts
        from_zero (s ∷ starts) end stored first rises texts = ap (λ k. starts_from k (map text_of stored)) (sym first) ∙ starts_back ty (s ∷ starts) end stored rises texts

-- so it is of each answer
pub decoded_spelled : (ty : ValType) (nullable : Bool) (count : ℕ) (tile : Tile) (result : Result (List Val) TileFault) → DecodesTile (λ vals. vals) (tile_vals ty nullable count tile) result
    → IsBytes tile.fixed → IsBytes tile.var → IsBytes tile.validity → IfOk result (IsSpelled ty nullable count tile)
decoded_spelled ty nullable count tile (Ok vals) is fixed var validity = tile_spelled ty nullable count tile vals fixed var validity is
decoded_spelled ty nullable count tile (Err e) is fixed var validity = tt

-- so it is of a tile in memory
pub encoded_back : (ty : ValType) (nullable : Bool) (vals : List Val) (tile : Tile) → tile ≡ tile_of ty nullable vals → All (Fits ty nullable) vals → IsBytes tile.var → length tile.var < 2 ^ 64 → tile_vals ty nullable (length vals) tile ≡ Ok vals
unfolding tile_of
encoded_back ty nullable vals tile is fits bytes room =
    let bytes_is : tile.var ≡ var_bytes (is_integer ty) vals = ap (λ (t : Tile). t.var) is in
    ap (tile_vals ty nullable (length vals)) is ∙ tile_back ty nullable vals fits (subst IsBytes bytes_is bytes) (subst (λ (b : List ℕ). length b < 2 ^ 64) bytes_is room)
