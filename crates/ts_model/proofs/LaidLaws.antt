-- The piece of a write: it holds what was written, and it is one that a write makes.
use Rattle.std.proofs.Common.{◌≡◌, ℤ, Bool, true, false, ◌&&◌, cond, inl, inr, List, [], ◌∷◌, length, map as list_map, Some, None, Ok, refl, sym, ap, ◌∙◌, subst, arith}
use Rattle.std.specs.Prelude.{IsTrue, Contains, option_map, is_some}
use Rattle.std.specs.List.{All}
use Rattle.std.proofs.lemmas.Bool.{true≢false}
use Rattle.std.proofs.lemmas.List.{length-map}
use Rattle.std.proofs.lemmas.List.Elements.{All-map, All-head, All-tail}
use Rattle.ts_base.specs.declared.heads.Cell.{Cell}
use Rattle.ts_base.specs.declared.heads.Version.{Version}
use Rattle.ts_base.specs.declared.keys.Key.{Key}
use Rattle.ts_base.specs.declared.values.Val.{Val}
use Rattle.ts_base.specs.Keys.{key_eq}
use Rattle.ts_base.specs.Coords.{coords_eq}
use Rattle.ts_domain.specs.Bounds.{cells_between, is_between}
use Rattle.ts_domain.specs.Domains.{is_in_domain}
use Rattle.ts_domain.specs.declared.boxes.SubBox.{SubBox}
use Rattle.ts_domain.specs.Boxes.{is_in_box}
use Rattle.ts_schema.specs.declared.attrs.Attr.{Attr}
use Rattle.ts_schema.specs.declared.frames.Frame.{Frame}
use Rattle.ts_schema.specs.FrameTexts.{IsFrame}
use Rattle.ts_schema.specs.SchemaTexts.{AreAttrs}
use Rattle.ts_model.specs.declared.commands.WriteIn.{WriteIn}
use Rattle.ts_model.specs.declared.deeds.Written.{Written}
use Rattle.ts_model.specs.Deeds.{row_at, IsKey, RowFits}
use Rattle.ts_model.specs.Commands.{is_spelled_write, laid, LaidFollows, in_global_order, low_of_cells, high_of_cells, version_in, piece_of}
use Rattle.ts_model.specs.Pieces.{version_at, HoldsWrite, IsVersion, IsOrdinary, IsClose}
use Rattle.ts_model.proofs.KeyLemmas.{key_same, key_itself, key_other}
use Rattle.ts_model.proofs.Laying.{coords_decide, laid_follows}
use Rattle.ts_model.proofs.GlobalOrder.{row_at-in_global_order, All-in_global_order, length-in_global_order, Climb-in_global_order}
use Rattle.ts_model.proofs.Corners.{corners_of, corners_in}
use Rattle.ts_model.proofs.ListLemmas.{Contains-nil, Contains-cons, each_holds}

-- ---- what the piece holds

-- the version of a row at a coordinate
abbrev versioned : Key → Key → List ℤ → List Val → Version
versioned key schema c row = record { key = key; schema = schema; coords = c; row = row }

-- at its own key a write's versions are those of its rows
version_own : (key schema : Key) (c : List ℤ) (cells : List Cell) → version_at (list_map (version_in key schema) cells) key c ≡ option_map (versioned key schema c) (row_at c cells)
version_own key schema c [] = refl
version_own key schema c (cell ∷ cells) =
    ap (λ b. cond (b && coords_eq cell.coords c) (Some (version_in key schema cell)) (version_at (list_map (version_in key schema) cells) key c)) (key_itself key)
    ∙ by (coords_eq cell.coords c) refl (version_own key schema c cells)
  where
    by : (b : Bool) → coords_eq cell.coords c ≡ b → version_at (list_map (version_in key schema) cells) key c ≡ option_map (versioned key schema c) (row_at c cells)
        → cond (true && b) (Some (version_in key schema cell)) (version_at (list_map (version_in key schema) cells) key c) ≡ option_map (versioned key schema c) (cond b (Some cell.row) (row_at c cells))
    by true e rest = ap (λ d. Some (versioned key schema d cell.row)) ((coords_decide cell.coords c).0 e)
    by false e rest = rest

-- at another key there is none
version_other : (key schema k : Key) (c : List ℤ) (cells : List Cell) → key_eq key k ≡ false → version_at (list_map (version_in key schema) cells) k c ≡ None
version_other key schema k c [] other = refl
version_other key schema k c (cell ∷ cells) other =
    ap (λ b. cond (b && coords_eq cell.coords c) (Some (version_in key schema cell)) (version_at (list_map (version_in key schema) cells) k c)) other ∙ version_other key schema k c cells other

-- at each key the versions of a write are those of its rows, or there are none
versions_are : (key schema k : Key) (c : List ℤ) (cells : List Cell)
    → version_at (list_map (version_in key schema) cells) k c ≡ cond (key_eq k key) (option_map (versioned key schema c) (row_at c cells)) None
versions_are key schema k c cells = by (key_eq k key) refl
  where
    by : (b : Bool) → key_eq k key ≡ b → version_at (list_map (version_in key schema) cells) k c ≡ cond b (option_map (versioned key schema c) (row_at c cells)) None
    by true e = ap (λ l. version_at (list_map (version_in key schema) cells) l c) (key_same k key e) ∙ version_own key schema c cells
    by false e = version_other key schema k c cells (key_other key k (λ same. absurd (true≢false (sym (subst (λ l. key_eq l key ≡ true) same (key_itself key)) ∙ e))))

-- the piece of a write holds what it wrote
pub held_in_piece : (frame : Frame) (w : Written) → HoldsWrite w (piece_of frame w)
unfolding piece_of
held_in_piece frame w = record {
  named = refl;
  schema = refl;
  ordinary = refl;
  origins = refl;
  versions = λ k c.
      versions_are w.key w.schema k c (in_global_order frame w.cells)
      ∙ ap (λ o. cond (key_eq k w.key) (option_map (versioned w.key w.schema c) o) None) (row_at-in_global_order frame c w.cells);
}

-- the piece of a write that is laid holds what was written
pub written_held : (frame : Frame) (attrs : List Attr) (key schema : Key) (w : WriteIn) (cells : List Cell) → IsFrame frame → AreAttrs attrs → IsKey key → IsKey schema
    → IsTrue (is_spelled_write w) → laid frame attrs w ≡ Ok cells
    → HoldsWrite (record { key = key; schema = schema; cells = cells }) (piece_of frame (record { key = key; schema = schema; cells = cells }))
written_held frame attrs key schema w cells is are is_key is_schema spelled e = held_in_piece frame (record { key = key; schema = schema; cells = cells })

-- ---- its box is close

-- what holds of the coordinates of a write's versions holds of coordinates that a cell has
at_row : (P : List ℤ → Type 0) (key schema : Key) (c : List ℤ) (cells : List Cell) → is_some (row_at c cells) ≡ true → All (λ (v : Version). P v.coords) (list_map (version_in key schema) cells) → P c
at_row P key schema c [] some all = absurd (true≢false (sym some))
at_row P key schema c (cell ∷ cells) some all = by (coords_eq cell.coords c) refl some (at_row P key schema c cells)
  where
    by : (b : Bool) → coords_eq cell.coords c ≡ b → is_some (cond b (Some cell.row) (row_at c cells)) ≡ true
        → (is_some (row_at c cells) ≡ true → All (λ (v : Version). P v.coords) (list_map (version_in key schema) cells) → P c) → P c
    by true same e rest = subst P ((coords_decide cell.coords c).0 same) (All-head (λ (v : Version). P v.coords) (version_in key schema cell) (list_map (version_in key schema) cells) all)
    by false other e rest = rest e (All-tail (λ (v : Version). P v.coords) (version_in key schema cell) (list_map (version_in key schema) cells) all)

-- a cell has a row at its coordinates
has_row : (cells : List Cell) (cell : Cell) → Contains cells cell → is_some (row_at cell.coords cells) ≡ true
has_row [] cell at = absurd (Contains-nil cell at)
has_row (x ∷ cells) cell at = by (coords_eq x.coords cell.coords) refl (has_row cells cell)
  where
    by : (b : Bool) → coords_eq x.coords cell.coords ≡ b → (Contains cells cell → is_some (row_at cell.coords cells) ≡ true) → is_some (cond b (Some x.row) (row_at cell.coords cells)) ≡ true
    by true same rest = refl
    by false other rest = elim (Contains-cons x cells cell at) [
      | inl one ↦ absurd (true≢false (sym ((coords_decide x.coords cell.coords).1 (ap (λ (y : Cell). y.coords) one)) ∙ other))
      | inr behind ↦ rest behind
    ]

-- a box that has all versions of a write's piece has all of its cells
cells_in : (frame : Frame) (key schema : Key) (sub : SubBox) (cells : List Cell)
    → All (λ (v : Version). IsTrue (is_in_box sub v.coords)) (list_map (version_in key schema) (in_global_order frame cells)) → All (λ (cell : Cell). IsTrue (is_in_box sub cell.coords)) cells
cells_in frame key schema sub cells all = each_holds (λ (cell : Cell). IsTrue (is_in_box sub cell.coords)) cells (λ cell at.
    at_row (λ c. IsTrue (is_in_box sub c)) key schema cell.coords (in_global_order frame cells) (ap is_some (row_at-in_global_order frame cell.coords cells) ∙ has_row cells cell at) all)

-- no smaller box has the cells of the piece of a write
pub close_piece : (frame : Frame) (attrs : List Attr) (key schema : Key) (cells : List Cell) → LaidFollows frame attrs cells → IsClose (piece_of frame (record { key = key; schema = schema; cells = cells }))
unfolding piece_of
close_piece frame attrs key schema cells follows =
    let long : length (list_map (version_in key schema) (in_global_order frame cells)) ≡ length cells =
    length-map (in_global_order frame cells) (version_in key schema) ∙ length-in_global_order frame cells follows.apart in
    let few = follows.few in
    record {
      tight = λ sub all. let found = (corners_in sub cells follows.some_cell (cells_in frame key schema sub cells all)).corners in (found.low_in, found.high_in);
      few = omega (arith, few, long);
    }

-- ---- the piece is one that a write makes

-- a cell that lies in the domain, and between the corners, and fits
record IsPlaced (frame : Frame) (attrs : List Attr) (low high : List ℤ) (cell : Cell) : Type 0 where
  inside : IsTrue (is_in_domain frame.domain cell.coords)
  hull : IsTrue (is_between low high cell.coords)
  row : RowFits attrs cell.row

-- the piece of a write whose cells may be those of a write
pub ordinary_piece : (frame : Frame) (attrs : List Attr) (key schema : Key) (cells : List Cell) → IsFrame frame → AreAttrs attrs → IsKey key → IsKey schema
    → LaidFollows frame attrs cells → IsOrdinary frame attrs (piece_of frame (record { key = key; schema = schema; cells = cells }))
unfolding piece_of
ordinary_piece frame attrs key schema cells is are is_key is_schema follows =
    let span = corners_of frame.domain cells follows.some_cell (λ k d lt. (follows.fit k d lt).inside) in
    let placed : All (IsPlaced frame attrs (low_of_cells cells) (high_of_cells cells)) cells =
    λ k d lt. record { inside = (follows.fit k d lt).inside; hull = span.each k d lt; row = (follows.fit k d lt).row } in
    let ordered = All-in_global_order frame (IsPlaced frame attrs (low_of_cells cells) (high_of_cells cells)) cells placed in
    let long : length (list_map (version_in key schema) (in_global_order frame cells)) ≡ length cells =
    length-map (in_global_order frame cells) (version_in key schema) ∙ length-in_global_order frame cells follows.apart in
    let some = follows.some_cell in
    let few = follows.few in
    let piece = piece_of frame (record { key = key; schema = schema; cells = cells }) in
    record {
      is_frame = is;
      are_attrs = are;
      key = key;
      is_key = is_key;
      schema = is_schema;
      frag = refl;
      origins = refl;
      consolidated = refl;
      dense = refl;
      cells = sym long;
      some = omega (arith, some, long);
      few = omega (arith, few, long);
      low = span.corners.low_in;
      high = span.corners.high_in;
      corners = span.corners.ordered;
      whole = λ dense. let box = follows.boxed dense in box.count ∙ ap (λ l. cells_between l box.sub.high) (sym box.low) ∙ ap (cells_between (low_of_cells cells)) (sym box.high);
      versions = All-map (IsVersion frame attrs piece.head key) (version_in key schema) (in_global_order frame cells)
          (λ k d lt. record { by_own = refl; in_schema = refl; inside = (ordered k d lt).inside; hull = (ordered k d lt).hull; row = (ordered k d lt).row });
      climb = Climb-in_global_order frame key schema cells;
    }

-- no smaller box has the cells of a write that is laid
pub written_close : (frame : Frame) (attrs : List Attr) (key schema : Key) (w : WriteIn) (cells : List Cell) → IsFrame frame → IsTrue (is_spelled_write w) → laid frame attrs w ≡ Ok cells
    → IsClose (piece_of frame (record { key = key; schema = schema; cells = cells }))
written_close frame attrs key schema w cells is spelled e = close_piece frame attrs key schema cells (laid_follows frame attrs w cells spelled is e)

-- the piece of a write that is laid is one that a write makes
pub written_ordinary : (frame : Frame) (attrs : List Attr) (key schema : Key) (w : WriteIn) (cells : List Cell) → IsFrame frame → AreAttrs attrs → IsKey key → IsKey schema
    → IsTrue (is_spelled_write w) → laid frame attrs w ≡ Ok cells → IsOrdinary frame attrs (piece_of frame (record { key = key; schema = schema; cells = cells }))
written_ordinary frame attrs key schema w cells is are is_key is_schema spelled e =
    ordinary_piece frame attrs key schema cells is are is_key is_schema (laid_follows frame attrs w cells spelled is e)
