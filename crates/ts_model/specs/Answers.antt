-- What a read answers.
use Rattle.std.specs.Prelude.{◌≡◌, ℕ, ℤ, Bool, cond, ◌&&◌, List, [], Option, Some, None, Ok, option_map, option_and_then, map as list_map}
use Rattle.std.specs.List.{list_any}
use Rattle.std.specs.Option.{option_or}
use Rattle.ts_base.specs.declared.values.Val.{Val}
use Rattle.ts_base.specs.Keys.{is_within, key_lt}
use Rattle.ts_model.specs.declared.answers.Answer.{Answer}
use Rattle.ts_model.specs.declared.deeds.Written.{Written}
use Rattle.ts_model.specs.declared.deeds.Deletion.{Deletion}
use Rattle.ts_model.specs.declared.queries.Ready.{Ready}
use Rattle.ts_domain.specs.Boxes.{is_in_box}
use Rattle.ts_schema.specs.declared.frames.Frame.{Frame}
use Rattle.ts_schema.specs.declared.schemas.Schema.{Schema}
use Rattle.ts_schema.specs.declared.attrs.Attr.{Attr}
use Rattle.ts_schema.specs.Attrs.{shown_row}
use Rattle.ts_cond.specs.declared.query.Query.{Query}
use Rattle.ts_cond.specs.Picks.{matches}
use Rattle.std.specs.Ordering.{int_cmp}
use Rattle.std.specs.Cmp.Lexicographic.{slice_cmp}
use Rattle.ts_model.specs.Deeds.{History, frame_in, attrs_with, current_schema, row_at, last_write, deletions}
use Rattle.ts_model.specs.Queries.{attr_fields, ready_in, selected, types_shown}
use Rattle.std.specs.FinMap as map

-- the rows of cells by their coordinates, in row order
abbrev pub Cells : Type 0
Cells = map.FinMap (slice_cmp int_cmp) (List Val)

-- a delete erases a cell with a row of these attributes: it matches, and has a greater key than the cell's last write
abbrev pub erases_cell : Written → List Attr → List ℤ → List Val → Deletion → Bool
erases_cell w attrs c row e = key_lt w.key e.key && matches e.cond c (attr_fields attrs) row

-- the cell of its last write is erased in [a, b]: a delete that is stamped there and has a greater key matches it, under the write's own schema
abbrev pub is_erased : History → ℕ → ℕ → List ℤ → Written → List Val → Bool
is_erased h a b c w row = list_any (λ e. is_within a b e.key && erases_cell w (attrs_with h w.schema) c row e) (deletions h)

-- the row of a write at a coordinate, unless it is erased
abbrev pub row_left : History → ℕ → ℕ → List ℤ → Written → Option (List Val)
row_left h a b c w = option_and_then (λ row. cond (is_erased h a b c w row) None (Some row)) (row_at c w.cells)

-- what is left of a write at a coordinate, as it shows through a schema
abbrev pub shown_in : History → Schema → ℕ → ℕ → List ℤ → Written → Option (List Val)
shown_in h current a b c w = option_map (λ row. shown_row (attrs_with h w.schema) row current.attrs) (row_left h a b c w)

-- the fill of each attribute
abbrev pub fills_of : List Attr → List Val
fills_of attrs = list_map (λ a. a.fill) attrs

-- what is shown where no write is left, through a schema with these attributes: nothing in a sparse array, in a dense one the fill of each attribute
abbrev pub unwritten : Frame → List Attr → Option (List Val)
unwritten frame attrs = cond frame.dense (Some (fills_of attrs)) None

-- what a read of [a, b] shows at a coordinate through a schema: the cell of the last write there, if it is not erased; no older write comes to light
abbrev pub shown_at : History → Schema → ℕ → ℕ → List ℤ → Option (List Val)
shown_at h current a b c = option_and_then (shown_in h current a b c) (last_write h a b c)

-- the same at the coordinates of a box, and nothing elsewhere
abbrev pub left_inside : History → Schema → Ready → ℕ → ℕ → List ℤ → Option (List Val)
left_inside h current ready a b c = cond (is_in_box ready.sub c) (shown_at h current a b c) None

-- what is shown at the coordinates of a box, and nothing elsewhere: where no write is left, a dense array shows the fill
abbrev pub shown_inside : History → Frame → Schema → Ready → ℕ → ℕ → List ℤ → Option (List Val)
shown_inside h frame current ready a b c = cond (is_in_box ready.sub c) (option_or (shown_at h current a b c) (unwritten frame current.attrs)) None

-- the answer leaves no write out: no fragment is clipped
abbrev pub IsWhole : Answer → Type 0
IsWhole answer = answer.clipped ≡ []

-- the answer to a read of [a, b]: of the cells of its box, as the history at the listing of the commits has them, shown through the schema there of the history at the listing of the schemas, its query selects the rows
pub record IsAnswer (h : History) (later : History) (a b : ℕ) (query : Query) (answer : Answer) : Type 0 where
  pub frame : Frame
  pub framed : frame_in later ≡ Some frame
  pub current : Schema
  pub holds : current_schema later b ≡ Some current
  pub ready : Ready
  pub is_ready : ready_in frame current.attrs query ≡ Ok ready
  pub cells : Cells
  pub each : (c : List ℤ) → map.get cells c ≡ shown_inside h frame current ready a b c
  pub rows : answer.rows ≡ selected frame current.attrs ready (map.entries cells)
  pub types : answer.types ≡ types_shown frame current.attrs ready
