-- What a scan of a history has found so far.
use Rattle.std.specs.Prelude.{◌≡◌, ℕ, ℤ, Bool, ◌&&◌, Ok, Err, List, [], ◌∷◌, ◌++◌, Option, Some, None, ◌⊎◌}
use Rattle.std.specs.BTreeMap.{BTreeMap}
use Rattle.std.specs.List.{list_any}
use Rattle.std.specs.FinMap as map
use Rattle.ts_base.specs.declared.heads.Cell.{Cell}
use Rattle.ts_base.specs.declared.values.Val.{Val}
use Rattle.ts_base.specs.Keys.{is_within}
use Rattle.ts_cond.specs.declared.fields.CondField.{CondField}
use Rattle.ts_cond.specs.declared.fields.Pick.{Pick}
use Rattle.ts_cond.specs.declared.fields.Pick.TheVariants.{Coord, Fill}
use Rattle.ts_cond.specs.declared.query.Query.{Query}
use Rattle.ts_cond.specs.Picks.{value_under}
use Rattle.ts_schema.specs.declared.attrs.Attr.{Attr}
use Rattle.ts_schema.specs.declared.frames.Frame.{Frame}
use Rattle.ts_schema.specs.declared.schemas.Schema.{Schema}
use Rattle.ts_model.specs.declared.deeds.Deed.{Deed}
use Rattle.ts_model.specs.declared.deeds.Deed.TheVariants.{Wrote}
use Rattle.ts_model.specs.declared.deeds.Written.{Written}
use Rattle.ts_model.specs.declared.queries.Ready.{Ready}
use Rattle.ts_model.specs.declared.queries.Shown.{Shown}
use Rattle.ts_model.specs.declared.answers.Outcome.{Outcome}
use Rattle.ts_model.specs.declared.answers.Outcome.TheVariants as outcome
use Rattle.ts_model.specs.declared.answers.Refusal.{Refusal}
use Rattle.ts_model.specs.declared.answers.Refusal.TheVariants as refusal
use Rattle.ts_model.specs.declared.scan.Scan.{Scan}
use Rattle.ts_model.specs.Queries.{attr_fields, ready_in, selected, types_shown}
use Rattle.ts_model.specs.Deeds.{History, frame_in, current_schema, row_at, deletions}
use Rattle.ts_model.specs.Answers.{Cells, erases_cell, left_inside, shown_inside, IsWhole, IsAnswer}

-- the rows of a tree by their coordinates
abbrev pub cells_in : BTreeMap (List ℤ) (List Val) → Cells
cells_in tree = map.from_entries tree.entries

-- with the row that is shown at a coordinate, if there is one
abbrev pub with_shown : Cells → List ℤ → Option (List Val) → Cells
with_shown m c None = m
with_shown m c (Some row) = map.insert m c row

-- the cells that a deed wrote
abbrev pub cells_of_deed : Deed → List Cell
cells_of_deed (Wrote w) = w.cells
cells_of_deed _ = []

-- the cells that the deeds wrote, in order
abbrev pub cells_of_deeds : List Deed → List Cell
cells_of_deeds [] = []
cells_of_deeds (d ∷ ds) = cells_of_deed d ++ cells_of_deeds ds

-- the map has what is shown at each coordinate, but perhaps where none of these cells is
abbrev pub Shows : (List ℤ → Option (List Val)) → Cells → List Cell → Type 0
Shows shown m cells = (c : List ℤ) → (map.get m c ≡ shown c) ⊎ ((map.get m c ≡ None) × (row_at c cells ≡ None))

-- the map has what is shown at each coordinate
abbrev pub AreShown : (List ℤ → Option (List Val)) → Cells → Type 0
AreShown shown m = (c : List ℤ) → map.get m c ≡ shown c

-- the cells are those of the box that a history shows through a schema
abbrev pub AreInside : History → Frame → Schema → Ready → ℕ → ℕ → Cells → Type 0
AreInside h frame current ready a b cells = AreShown (shown_inside h frame current ready a b) cells

-- a scan looks for what is left of the writes of its deeds, as it shows through its schema, in its box and its interval
abbrev pub left_by : Scan → List ℤ → Option (List Val)
left_by s = left_inside s.deeds.now s.current.now s.ready.now s.from s.to

-- and for what its array shows there
abbrev pub shown_by : Scan → List ℤ → Option (List Val)
shown_by s = shown_inside s.deeds.now s.frame.now s.current.now s.ready.now s.from s.to

-- a cell with its row
abbrev pub shown_of : List ℤ × List Val → Shown
shown_of e = record { coords = e.0; row = e.1 }

-- one of the deeds that is stamped in [a, b] erases the cell of its last write, whose row has these attributes
abbrev pub erased_under : List Attr → ℕ → ℕ → List ℤ → Written → List Val → List Deed → Bool
erased_under attrs a b c w row deeds = list_any (λ e. is_within a b e.key && erases_cell w attrs c row e) (deletions deeds)

-- where a field's value is found: that of a dimension in the coordinates; else it is told
abbrev pub pick_from : Option ℕ → Val → Pick
pick_from (Some dim) v = Coord dim
pick_from None v = Fill v

-- where the value of a field is found, for a row of these attributes
abbrev pub pick_at : List Attr → List Val → CondField → Pick
pick_at attrs row field = pick_from field.dim (value_under field (attr_fields attrs) row)

-- the rows are those that are selected of the cells of the box that a history shows through a schema
pub record AreRows (h : History) (frame : Frame) (current : Schema) (ready : Ready) (a b : ℕ) (rows : List (List Val)) : Type 0 where
  pub cells : Cells
  pub each : AreInside h frame current ready a b cells
  pub same : rows ≡ selected frame current.attrs ready (map.entries cells)

-- how a read of [a, b] ends of an array with a frame through a schema: with its answer, or refused
abbrev pub IsAsked : History → Frame → Schema → ℕ → ℕ → Query → Outcome → Type 0
IsAsked h frame current a b query (outcome.Read answer) =
    (ready : Ready) × (ready_in frame current.attrs query ≡ Ok ready) × (answer.types ≡ types_shown frame current.attrs ready) × AreRows h frame current ready a b answer.rows × IsWhole answer
IsAsked h frame current a b query (outcome.Refused r) = ready_in frame current.attrs query ≡ Err r
IsAsked h frame current a b query end = ⊥

-- a read of the history through the schema there is refused so: no schema holds at b, or else its query is refused
abbrev pub IsRefused : History → ℕ → Query → Refusal → Type 0
IsRefused later b query r =
    ((current_schema later b ≡ None) × (r ≡ refusal.NoSchema b))
    ⊎ ((frame : Frame) × (current : Schema) × (frame_in later ≡ Some frame) × (current_schema later b ≡ Some current) × (ready_in frame current.attrs query ≡ Err r))

-- how a read of [a, b] ends: with its answer, which leaves no write out, or refused
abbrev pub IsReferred : History → History → ℕ → ℕ → Query → Outcome → Type 0
IsReferred seen later a b query (outcome.Read answer) = IsAnswer seen later a b query answer × IsWhole answer
IsReferred seen later a b query (outcome.Refused r) = IsRefused later b query r
IsReferred seen later a b query end = ⊥
