-- What commands make, and what they are refused for.
use Rattle.std.specs.Prelude.{ℕ, ℤ, pos, ◌<◌, ◌≤◌, IsTrue, All, ◌+◌, ◌-◌, ◌*◌, ◌^◌, Bool, true, false, cond, ◌≡◌, ◌&&◌, ◌||◌, if◌then◌else◌, List, [], ◌∷◌, ◌++◌, Option, Some, None, option_map, option_and_then, filter_map, length, nat_le, nat_lt, nat_eq, int_le, int_lt, slice_get, Result, Ok, Err, find, is_some, suc, zero, neg_ℤ, map as list_map}
use Rattle.ts_base.specs.declared.keys.Key.{Key}
use Rattle.ts_base.specs.declared.heads.Version.{Version}
use Rattle.ts_base.specs.declared.heads.Piece.{Piece}
use Rattle.ts_base.specs.declared.heads.Cell.{Cell}
use Rattle.ts_base.specs.declared.values.Val.{Val}
use Rattle.ts_base.specs.declared.values.ValType.{ValType}
use Rattle.ts_model.specs.declared.commands.Command.{Command}
use Rattle.ts_model.specs.declared.commands.FrameIn.{FrameIn}
use Rattle.ts_model.specs.declared.commands.ColIn.{ColIn}
use Rattle.ts_model.specs.declared.commands.WriteIn.{WriteIn}
use Rattle.ts_model.specs.declared.answers.Refusal.{Refusal}
use Rattle.ts_model.specs.declared.deeds.Written.{Written}
use Rattle.ts_schema.specs.declared.frames.Frame.{Frame}
use Rattle.ts_schema.specs.declared.attrs.Attr.{Attr}
use Rattle.ts_domain.specs.declared.dims.Dim.{Dim}
use Rattle.std.specs.List.{list_all}
use Rattle.std.specs.Option.{option_or, option_map_or}
use Rattle.std.specs.declared.cmp.Ordering.{Ordering}
use Rattle.ts_base.specs.Keys.{frag_of}
use Rattle.ts_base.specs.Labels.{is_label}
use Rattle.ts_base.specs.Values.{is_integer}
use Rattle.ts_value.specs.Fits.{fits_of}
use Rattle.ts_domain.specs.declared.boxes.SubBox.{SubBox}
use Rattle.ts_domain.specs.Boxes.{IsBox, is_in_box, cells_of as box_cells}
use Rattle.ts_domain.specs.Domains.{first_outside}
use Rattle.ts_domain.specs.Dims.{domain_fault, has_name}
use Rattle.ts_domain.specs.Bounds.{least_corner, greatest_corner}
use Rattle.ts_order.specs.Orders.{global_cmp, coords_in_order}
use Rattle.ts_schema.specs.Attrs.{same_name, has_attr}
use Rattle.ts_schema.specs.Faults.{schema_fault}
use Rattle.ts_schema.specs.FrameTexts.{is_capacity, is_bound}
use Rattle.ts_cond.specs.declared.query.NamedBox.{NamedBox}
use Rattle.ts_cond.specs.declared.query.Query.{Query}
use Rattle.ts_commit.specs.declared.vacs.Limits.{Limits}
use Rattle.ts_model.specs.declared.commands.Command.TheVariants.{Create, Evolve, Write, Read, Delete, Consolidate, Vacuum, Unlock, Fragments}
use Rattle.ts_base.specs.declared.values.Val.TheVariants.{Int, Bytes, Null}
use Rattle.ts_base.specs.declared.values.ValType.TheVariants.{Blob}
use Rattle.ts_model.specs.Deeds.{row_at, are_apart, CellFits}
use Rattle.ts_model.specs.Queries.{box_of, counted_cells, stray_bound, bound_outside, over_most}
use Rattle.ts_model.specs.declared.answers.Refusal.TheVariants as refusal
use Rattle.std.specs.FinMap as map

-- ---- create

-- the frame of a create
abbrev pub frame_made : FrameIn → Frame
frame_made f = record { dense = f.dense; domain = f.dims; cell = f.cell; tile = f.tile; capacity = f.capacity }

-- why a create is refused before its first call, if it is: for its dimensions, or else for its attributes
abbrev pub create_refusal : FrameIn → Option Refusal
create_refusal f = option_or (option_map refusal.DomainBad (domain_fault f.dims)) (option_map refusal.SchemaBad (schema_fault f.dims f.attrs))

-- ---- the columns of a write

-- the first refusal, or what follows from the value
infixl 10 ◌or_else◌
abbrev pub ◌or_else◌ : {A B : Type 0} → Result A Refusal → (A → Result B Refusal) → Result B Refusal
(Ok x) or_else f = f x
(Err r) or_else f = Err r

-- a value that is there, or the clash of a name
abbrev pub or_clash : {A : Type 0} → List ℕ → Option A → Result A Refusal
or_clash label None = Err (refusal.SchemaClash label)
or_clash label (Some x) = Ok x

-- the values of the column of a name
abbrev pub column : List ColIn → List ℕ → Option (List Val)
column cols label = option_map (λ c. c.values) (find (λ c. same_name c.name label) cols)

-- the values, where there are so many
abbrev pub so_many : ℕ → List Val → Option (List Val)
so_many count values = cond (nat_eq (length values) count) (Some values) None

-- how many cells a write has: as many as the first dimension's column has values
abbrev pub count_of : List Dim → List ColIn → ℕ
count_of [] cols = 0
count_of (d ∷ dims) cols = option_map_or length (column cols d.name) 0

-- each answer, where there is one for each
abbrev pub all_of : {A B : Type 0} → (A → Option B) → List A → Option (List B)
all_of f [] = Some []
all_of f (x ∷ xs) = option_and_then (λ y. option_map (λ ys. y ∷ ys) (all_of f xs)) (f x)

-- a coordinate is an integer
abbrev pub coordinate : Val → Option ℤ
coordinate (Int z) = Some z
coordinate _ = None

-- the number of a lower-case hexadecimal digit
abbrev pub hex_digit : ℕ → Option ℕ
hex_digit b = if nat_le 48 b && nat_le b 57 then Some (b - 48) else (if nat_le 97 b && nat_le b 102 then Some (b - 87) else None)

-- the byte of two digits
abbrev pub byte_of : ℕ → ℕ → Option ℕ
byte_of high low = option_and_then (λ h. option_map (λ l. h * 16 + l) (hex_digit low)) (hex_digit high)

-- the bytes of which these are the digits, two for each
abbrev pub blob_bytes : List ℕ → Option (List ℕ)
blob_bytes [] = Some []
blob_bytes (x ∷ []) = None
blob_bytes (x ∷ y ∷ rest) = option_and_then (λ high. option_and_then (λ low. option_map (λ bytes. (high * 16 + low) ∷ bytes) (blob_bytes rest)) (hex_digit y)) (hex_digit x)

-- what a value of a column says: for a blob the digits of its bytes
abbrev pub said_by : ValType → Val → Option Val
said_by Blob (Bytes text) = option_map Bytes (blob_bytes text)
said_by _ v = Some v

-- what a value of a column says of an attribute, where that fits
abbrev pub value_of : Attr → Val → Option Val
value_of a v = option_and_then (λ said. cond (fits_of a.ty a.nullable said) (Some said) None) (said_by a.ty v)

-- the column of a dimension, or the clash of its name
abbrev pub dim_column : List ColIn → ℕ → Dim → Result (List ℤ) Refusal
dim_column cols count d = or_clash d.name (option_and_then (all_of coordinate) (option_and_then (so_many count) (column cols d.name)))

-- the column of an attribute, or the clash of its name
abbrev pub attr_column : List ColIn → ℕ → Attr → Result (List Val) Refusal
attr_column cols count a = or_clash a.name (option_and_then (all_of (value_of a)) (option_and_then (so_many count) (column cols a.name)))

-- a column for each, in turn, or the first clash
abbrev pub columns : {A B : Type 0} → (A → Result B Refusal) → List A → Result (List B) Refusal
columns f [] = Ok []
columns f (x ∷ xs) = f x or_else λ y. columns f xs or_else λ ys. Ok (y ∷ ys)

-- the first column that is of no dimension and of no attribute
abbrev pub stray : List Dim → List Attr → List ColIn → Option (List ℕ)
stray dims attrs [] = None
stray dims attrs (c ∷ cols) = if has_name dims c.name || has_attr attrs c.name then stray dims attrs cols else Some c.name

-- ---- the cells of a write

-- the item at a place of each column
abbrev pub across : {A : Type 0} → ℕ → List (List A) → List A
across place columns = filter_map (λ column. slice_get column place) columns

-- so many cells, from a place on
abbrev pub cells_from : List (List ℤ) → List (List Val) → ℕ → ℕ → List Cell
cells_from coords rows place zero = []
cells_from coords rows place (suc more) = record { coords = across place coords; row = across place rows } ∷ cells_from coords rows (suc place) more

-- the first coordinate outside the domain, cell by cell
abbrev pub outside_in : List Dim → List Cell → Option Refusal
outside_in dims [] = None
outside_in dims (cell ∷ cells) = option_or (option_map (λ o. refusal.Domain o.dim o.value) (first_outside dims cell.coords)) (outside_in dims cells)

-- the first cell whose coordinates came earlier, the cells counted from a place on
abbrev pub again_in : List Cell → ℕ → List Cell → Option Refusal
again_in before place [] = None
again_in before place (cell ∷ cells) = if is_some (row_at cell.coords before) then Some (refusal.DuplicateCell place) else again_in (before ++ cell ∷ []) (suc place) cells

-- a cell for each of these coordinates, whose rows are counted from a place on
abbrev pub cells_at : List (List ℤ) → List (List Val) → ℕ → List Cell
cells_at [] rows place = []
cells_at (c ∷ coords) rows place = record { coords = c; row = across place rows } ∷ cells_at coords rows (suc place)

-- the cells, where no refusal stands against them
abbrev pub unless : List Cell → Option Refusal → Result (List Cell) Refusal
unless cells None = Ok cells
unless cells (Some r) = Err r

-- the cells of a write to a sparse array, whose columns have the coordinates too, or why it is refused
abbrev pub laid_apart : List Dim → List Attr → List ColIn → Result (List Cell) Refusal
laid_apart dims attrs cols =
    columns (dim_column cols (count_of dims cols)) dims or_else λ coords.
    columns (attr_column cols (count_of dims cols)) attrs or_else λ rows.
    unless (cells_from coords rows 0 (count_of dims cols))
    (option_or (option_map refusal.SchemaClash (stray dims attrs cols))
    (option_or (outside_in dims (cells_from coords rows 0 (count_of dims cols)))
    (option_or (again_in [] 0 (cells_from coords rows 0 (count_of dims cols)))
    (over_most (count_of dims cols)))))

-- a sparse array takes no box
abbrev pub laid_sparse : List Dim → List Attr → List NamedBox → List ColIn → Result (List Cell) Refusal
laid_sparse dims attrs [] cols = laid_apart dims attrs cols
laid_sparse dims attrs (b ∷ named) cols = Err (refusal.SchemaClash b.name)

-- why a write to a box of a dense array is refused, whose attributes have their columns
abbrev pub box_refusal : List Dim → List Attr → WriteIn → SubBox → Option Refusal
box_refusal dims attrs w sub =
    option_or (option_map refusal.SchemaClash (stray_bound dims w.sub))
    (option_or (option_map refusal.SchemaClash (stray [] attrs w.cols))
    (option_or (bound_outside dims sub)
    (over_most (counted_cells sub))))

-- the cells of a write to a dense array, one for each cell of a box in the order of a layout, or why it is refused
abbrev pub laid_over : List Dim → List Attr → WriteIn → SubBox → Result (List Cell) Refusal
laid_over dims attrs w sub =
    columns (attr_column w.cols (counted_cells sub)) attrs or_else λ rows.
    unless (cells_at (coords_in_order w.layout sub) rows 0) (box_refusal dims attrs w sub)

-- the cells of a write to a dense array, over the box that it names
abbrev pub laid_dense : List Dim → List Attr → WriteIn → Result (List Cell) Refusal
laid_dense dims attrs w = laid_over dims attrs w (box_of w.sub dims)

-- the cells of a write to an array with this frame, in a schema with these attributes, or why it is refused: a write to a sparse array tells where each of its cells is, one to a dense array has all cells of a box
abbrev pub laid : Frame → List Attr → WriteIn → Result (List Cell) Refusal
laid frame attrs w = if frame.dense then laid_dense frame.domain attrs w else laid_sparse frame.domain attrs w.sub w.cols

-- ---- the piece of a write

-- the global order of an array's cells
abbrev pub global_order : Frame → List ℤ → List ℤ → Ordering
global_order frame = global_cmp frame.domain frame.tile frame.cell

-- the cells by their coordinates, in global order
unfoldable pub in_global_order : Frame → List Cell → List Cell
in_global_order frame cells = map.values (map.from_entries {R = global_order frame} (list_map (λ cell. (cell.coords, cell)) cells))

-- the least and the greatest corner of cells, and of no cell the one that is given
abbrev pub least_of_cells : List ℤ → List Cell → List ℤ
least_of_cells corner [] = corner
least_of_cells corner (cell ∷ cells) = least_of_cells (least_corner corner cell.coords) cells

-- the greatest corner of a box round a corner and cells
abbrev pub greatest_of_cells : List ℤ → List Cell → List ℤ
greatest_of_cells corner [] = corner
greatest_of_cells corner (cell ∷ cells) = greatest_of_cells (greatest_corner corner cell.coords) cells

-- the low corner of the least box round cells
abbrev pub low_of_cells : List Cell → List ℤ
low_of_cells [] = []
low_of_cells (cell ∷ cells) = least_of_cells cell.coords cells

-- the high corner of the least box round cells
abbrev pub high_of_cells : List Cell → List ℤ
high_of_cells [] = []
high_of_cells (cell ∷ cells) = greatest_of_cells cell.coords cells

-- cells are those of a box, which is the least one that has them all
pub record FillBox (cells : List Cell) : Type 0 where
  pub sub : SubBox
  pub valid : IsBox sub
  pub low : low_of_cells cells ≡ sub.low
  pub high : high_of_cells cells ≡ sub.high
  pub count : length cells ≡ box_cells sub
  pub each : (c : List ℤ) → is_some (row_at c cells) ≡ is_in_box sub c

-- the cells may be those of a write: there are some, not too many, no two at one place, each fits, and in a dense array they are those of a box
pub record LaidFollows (frame : Frame) (attrs : List Attr) (cells : List Cell) : Type 0 where
  pub some_cell : 1 ≤ length cells
  pub few : length cells < 2 ^ 32
  pub apart : IsTrue (are_apart cells)
  pub fit : All (CellFits frame.domain attrs) cells
  pub boxed : frame.dense ≡ true → FillBox cells

-- the version that a write makes of a cell
abbrev pub version_in : Key → Key → Cell → Version
version_in key schema cell = record { key = key; schema = schema; coords = cell.coords; row = cell.row }

-- the piece of a write: its cells in global order, between their corners
unfoldable pub piece_of : Frame → Written → Piece
piece_of frame w = record {
  head = record {
    frag = frag_of w.key;
    schema = w.schema;
    dense = frame.dense;
    consolidated = false;
    low = low_of_cells w.cells;
    high = high_of_cells w.cells;
    cells = length w.cells;
    origins = w.key ∷ [];
  };
  versions = list_map (version_in w.key w.schema) (in_global_order frame w.cells);
}

-- ---- which commands there can be

-- the number is a byte
abbrev pub is_byte : ℕ → Bool
is_byte byte = nat_lt byte 256

-- the value has a spelling
abbrev pub is_spelled_val : Val → Bool
is_spelled_val Null = true
is_spelled_val (Int z) = int_le (neg_ℤ (pos (2 ^ 127))) z && int_lt z (pos (2 ^ 127))
is_spelled_val (Bytes bytes) = nat_lt (length bytes) (2 ^ 64) && list_all is_byte bytes

-- the name is a label, and the fill has a spelling
abbrev pub is_spelled_attr : Attr → Bool
is_spelled_attr a = is_label a.name && is_spelled_val a.fill

-- the name is a label, the type one of integers, and the numbers lie between -2^64 and 2^64
abbrev pub is_spelled_dim : Dim → Bool
is_spelled_dim d = is_label d.name && (is_integer d.ty && (is_bound d.low && (is_bound d.high && is_bound d.extent)))

-- the name is a label, and there is a value; each has a spelling
abbrev pub is_spelled_col : ColIn → Bool
is_spelled_col c = is_label c.name && (nat_lt 0 (length c.values) && (nat_lt (length c.values) (2 ^ 64) && list_all is_spelled_val c.values))

-- the text is one of bytes, so many that their number has 64 bits
abbrev pub is_text : List ℕ → Bool
is_text text = nat_lt (length text) (2 ^ 64) && list_all is_byte text

-- the name is a label, and the low bound is at most the high one, which both lie between -2^64 and 2^64
abbrev pub is_spelled_box : NamedBox → Bool
is_spelled_box b = is_label b.name && (is_bound b.low && (is_bound b.high && int_le b.low b.high))

-- the columns have spellings, and so have the bounds of the box
abbrev pub is_spelled_write : WriteIn → Bool
is_spelled_write w = list_all is_spelled_col w.cols && list_all is_spelled_box w.sub

-- the names are labels, the bounds are bounds, and the filter is a text
abbrev pub is_spelled_query : Query → Bool
is_spelled_query q = list_all is_spelled_box q.sub && (list_all is_label q.fields && option_map_or is_text q.filter true)

-- a consolidation takes two fragments or more, and at most 4096
abbrev pub are_limits : Limits → Bool
are_limits limits = nat_le 2 limits.min && (nat_le limits.min limits.max && nat_le limits.max 4096)

-- the command is one that there can be: its names are labels, its numbers lie in their ranges, and an array has a dimension and a capacity
abbrev pub fits : Command → Bool
fits (Create f) = nat_lt 0 (length f.dims) && (list_all is_spelled_dim f.dims && (is_capacity f.capacity && list_all is_spelled_attr f.attrs))
fits (Evolve change) = list_all is_spelled_attr change.add
fits (Write w) = is_spelled_write w
fits (Read from to query) = nat_lt from (2 ^ 64) && (nat_lt to (2 ^ 64) && is_spelled_query query)
fits (Delete text) = is_text text
fits (Consolidate from to limits) = nat_lt from (2 ^ 64) && (nat_lt to (2 ^ 64) && are_limits limits)
fits Vacuum = true
fits (Unlock seed lane) = nat_lt seed (2 ^ 64) && nat_lt lane (2 ^ 32)
fits Fragments = true
