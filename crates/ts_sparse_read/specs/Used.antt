-- The objects of columns that a fetch reads, and where tiles stand in them.
use Rattle.std.specs.Prelude.{ℕ, suc, ◌-◌, ◌*◌, min, max, Bool, true, false, List, [], ◌∷◌, ◌++◌, filter, get_or}
use Rattle.ts_base.specs.declared.names.Part.{Part}
use Rattle.ts_base.specs.declared.names.Part.TheVariants as part
use Rattle.ts_base.specs.Values.{is_integer}
use Rattle.ts_domain.specs.declared.dims.Dim.{Dim}
use Rattle.ts_schema.specs.declared.attrs.Attr.{Attr}
use Rattle.ts_footer.specs.declared.columns.ColumnForm.{ColumnForm}
use Rattle.ts_footer.specs.declared.columns.ColumnForm.TheVariants.{Fixed, Var}
use Rattle.ts_footer.specs.declared.columns.ColumnSize.{ColumnSize}
use Rattle.ts_footer.specs.Columns.{fixed_length}
use Rattle.ts_sparse_read.specs.declared.opened.UsedColumn.{UsedColumn}
use Rattle.ts_sparse_read.specs.declared.opened.Span.{Span}
use Rattle.ts_sparse_read.specs.TileReads.{is_among}

-- ---- the parts of all columns, in the order of the metadata

-- those of the dimensions from the k-th on
abbrev pub dim_parts : ℕ → List Dim → List Part
dim_parts k [] = []
dim_parts k (d ∷ dims) = part.Dim k ∷ dim_parts (suc k) dims

-- integers have one part, byte lists two
abbrev pub value_parts : Bool → ℕ → List Part
value_parts true k = part.Attr k ∷ []
value_parts false k = part.Attr k ∷ (part.Var k ∷ [])

-- where values may be null, one part says which are not
abbrev pub validity_parts : Bool → ℕ → List Part
validity_parts true k = part.Validity k ∷ []
validity_parts false k = []

-- those of the attributes from the k-th on
abbrev pub attr_parts : ℕ → List Attr → List Part
attr_parts k [] = []
attr_parts k (a ∷ attrs) = value_parts (is_integer a.ty) k ++ (validity_parts a.nullable k ++ attr_parts (suc k) attrs)

-- a consolidated fragment says which write each cell is of
abbrev pub origin_parts : Bool → List Part
origin_parts true = part.Origin ∷ []
origin_parts false = []

-- all of them
unfoldable pub column_parts : List Dim → List Attr → Bool → List Part
column_parts dims attrs consolidated = dim_parts 0 dims ++ (attr_parts 0 attrs ++ origin_parts consolidated)

-- ---- what the metadata says of them

-- an object of which nothing is told
abbrev pub no_size : ColumnSize
no_size = record { length = 0; starts = [] }

-- each part with its form and its size
abbrev pub columns_told : List Part → List ColumnForm → List ColumnSize → List UsedColumn
columns_told [] forms sizes = []
columns_told (p ∷ parts) [] sizes = []
columns_told (p ∷ parts) (f ∷ forms) [] = record { part = p; form = f; size = no_size } ∷ columns_told parts forms []
columns_told (p ∷ parts) (f ∷ forms) (s ∷ sizes) = record { part = p; form = f; size = s } ∷ columns_told parts forms sizes

-- whether a fetch reads the part, where it reads the attributes at these places: it reads all coordinates and origins
abbrev pub is_used : List ℕ → Part → Bool
is_used places (part.Attr k) = is_among places k
is_used places (part.Var k) = is_among places k
is_used places (part.Validity k) = is_among places k
is_used places _ = true

-- the objects that a fetch reads
abbrev pub used_among : List ℕ → List UsedColumn → List UsedColumn
used_among places columns = filter (λ column. is_used places column.part) columns

-- ---- tiles

-- tiles have so many cells, one at least
abbrev pub tile_size : ℕ → ℕ
tile_size capacity = max capacity 1

-- how many cells the tile at a place has, of so many in tiles of n
abbrev pub cells_at : ℕ → ℕ → ℕ → ℕ
cells_at n cells i = min n (cells - i * n)

-- where the tile at a place stands in an object, of so many cells in tiles of n
abbrev pub span_by : ColumnForm → ℕ → ℕ → ℕ → Part → ColumnSize → Span
span_by (Fixed width) n cells i p size = record { part = p; from = fixed_length width (i * n); count = width * cells_at n cells i }
span_by Var n cells i p size = record { part = p; from = get_or size.starts i size.length; count = get_or size.starts (suc i) size.length - get_or size.starts i size.length }

abbrev pub span_of : ℕ → ℕ → ℕ → UsedColumn → Span
span_of n cells i column = span_by column.form n cells i column.part column.size
