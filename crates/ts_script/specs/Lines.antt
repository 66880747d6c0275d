-- The lines of a script: which object stands for which command.
use Rattle.std.specs.Prelude.{ℕ, List, [], ◌∷◌, codes, ◌||◌, ◌&&◌, not, length, nat_lt, Option, Some, None, Bool, true, false, is_some, if◌then◌else◌}
use Rattle.std.specs.Str.{bytes_eq}
use Rattle.serde_json.specs.Data.{Data}
use Rattle.serde_json.specs.Find.{as_str, get}
use Rattle.ts_base.specs.declared.heads.Stop.TheVariants.{Never}
use Rattle.ts_domain.specs.declared.orders.Order.TheVariants.{Row}
use Rattle.ts_domain.specs.declared.orders.Layout.TheVariants as layouts
use Rattle.ts_cond.specs.declared.query.Query.{Query}
use Rattle.ts_model.specs.declared.commands.Command.{Command}
use Rattle.ts_model.specs.declared.commands.Command.TheVariants as command
use Rattle.ts_model.specs.declared.commands.Line.{Line}
use Rattle.ts_model.specs.Commands.{fits}
use Rattle.ts_script.specs.declared.words.ObjectForm.{ObjectForm}
use Rattle.ts_script.specs.declared.words.ObjectForm.TheVariants.{Create, Evolve, Write}
use Rattle.ts_script.specs.Shapes.{◌>>=◌, when, unsigned, unsigned_32, required, optional, if_there, list_of, has_only}
use Rattle.ts_script.specs.Values.{label, dim, attr, order, layout, columns, box, filter, stop}

-- the keys that every command of a script may have
abbrev pub common_keys : List (List ℕ)
common_keys = codes "cmd" ∷ codes "lane" ∷ codes "at" ∷ codes "stop" ∷ []

-- the command's name
abbrev pub name_of : Data → Option (List ℕ)
name_of d = required as_str (codes "cmd") d

-- the keys of a create
abbrev pub create_keys : List (List ℕ)
create_keys = codes "kind" ∷ codes "dims" ∷ codes "attrs" ∷ codes "cell_order" ∷ codes "tile_order" ∷ codes "capacity" ∷ []

-- an array of this kind is dense
abbrev pub kind_named : List ℕ → Option Bool
kind_named kind = if bytes_eq kind (codes "dense") then Some true else (if bytes_eq kind (codes "sparse") then Some false else None)

-- in what follows `common` are the keys that are allowed beside the command's own

-- a create: `kind` "dense" or "sparse", `dims`, `attrs`, and optional `cell_order`, `tile_order` and `capacity`
unfoldable pub create_of : List (List ℕ) → Data → Option Command
create_of common d = do
  kind ← required as_str (codes "kind") d
  dims ← required (list_of dim) (codes "dims") d
  attrs ← required (list_of attr) (codes "attrs") d
  cell ← optional order Row (codes "cell_order") d
  tile ← optional order Row (codes "tile_order") d
  capacity ← optional unsigned_32 10000 (codes "capacity") d
  dense ← kind_named kind
  when (has_only common create_keys d) (command.Create (record { dense = dense; dims = dims; cell = cell; tile = tile; capacity = capacity; attrs = attrs }))

-- an evolve: optional `add` and `drop`, at least one of the two
unfoldable pub evolve_of : List (List ℕ) → Data → Option Command
evolve_of common d = do
  add ← optional (list_of attr) [] (codes "add") d
  less ← optional (list_of label) [] (codes "drop") d
  when ((is_some (get (codes "add") d) || is_some (get (codes "drop") d)) && has_only common (codes "add" ∷ codes "drop" ∷ []) d) (command.Evolve (record { add = add; less = less }))

-- the keys of a write
abbrev pub write_keys : List (List ℕ)
write_keys = codes "cols" ∷ codes "box" ∷ codes "layout" ∷ []

-- a write: `cols`, and optional `box` and `layout`, which is "row" where it is not there
unfoldable pub write_of : List (List ℕ) → Data → Option Command
write_of common d = do
  cols ← required columns (codes "cols") d
  sub ← box (get (codes "box") d)
  cells ← optional order Row (codes "layout") d
  when (has_only common write_keys d) (command.Write (record { cols = cols; sub = sub; layout = cells }))

-- what a read asks for: optional `box`, `fields`, of which there is at least one, `where` and `layout`, which is "row" where it is not there
unfoldable pub query_of : Data → Option Query
query_of d = do
  sub ← box (get (codes "box") d)
  fields ← optional (list_of label) [] (codes "fields") d
  found ← filter (get (codes "where") d)
  order ← optional layout layouts.Row (codes "layout") d
  when (not (is_some (get (codes "fields") d)) || nat_lt 0 (length fields)) (record { sub = sub; fields = fields; filter = found; layout = order })

-- the keys of a read
abbrev pub read_keys : List (List ℕ)
read_keys = codes "from" ∷ codes "to" ∷ codes "box" ∷ codes "fields" ∷ codes "where" ∷ codes "layout" ∷ []

-- a read: what it asks for, and optional `from` and `to`, each 0 where it is not there
unfoldable pub read_of : List (List ℕ) → Data → Option Command
read_of common d = do
  from ← optional unsigned 0 (codes "from") d
  to ← optional unsigned 0 (codes "to") d
  query ← query_of d
  when (has_only common read_keys d) (command.Read from to query)

-- a delete: `where`
unfoldable pub delete_of : List (List ℕ) → Data → Option Command
delete_of common d = do
  text ← required as_str (codes "where") d
  when (has_only common (codes "where" ∷ []) d) (command.Delete text)

-- the keys of a consolidation
abbrev pub consolidate_keys : List (List ℕ)
consolidate_keys = codes "from" ∷ codes "to" ∷ codes "min" ∷ codes "max" ∷ []

-- a consolidation: optional `from` and `to`, each 0 where it is not there, and how many fragments it takes: optional `min`, which is 2 where it is not there, and `max`, which is 64
unfoldable pub consolidate_of : List (List ℕ) → Data → Option Command
consolidate_of common d = do
  from ← optional unsigned 0 (codes "from") d
  to ← optional unsigned 0 (codes "to") d
  min ← optional unsigned_32 2 (codes "min") d
  max ← optional unsigned_32 64 (codes "max") d
  when (has_only common consolidate_keys d) (command.Consolidate from to (record { min = min; max = max }))

-- a vacuum has no keys of its own
unfoldable pub vacuum_of : List (List ℕ) → Data → Option Command
vacuum_of common d = when (has_only common [] d) command.Vacuum

-- an unlock in this lane has no keys of its own; its seed is 0
unfoldable pub unlock_of : List (List ℕ) → ℕ → Data → Option Command
unlock_of common lane d = when (has_only common [] d) (command.Unlock 0 lane)

-- a listing of the commits has none either
unfoldable pub fragments_of : List (List ℕ) → Data → Option Command
fragments_of common d = when (has_only common [] d) command.Fragments

-- the command of a script that has this name, in this lane
unfoldable pub command_of : ℕ → List ℕ → Data → Option Command
command_of lane name d =
    if bytes_eq name (codes "create") then create_of common_keys d
    else (if bytes_eq name (codes "evolve") then evolve_of common_keys d
    else (if bytes_eq name (codes "write") then write_of common_keys d
    else (if bytes_eq name (codes "read") then read_of common_keys d
    else (if bytes_eq name (codes "delete") then delete_of common_keys d
    else (if bytes_eq name (codes "consolidate") then consolidate_of common_keys d
    else (if bytes_eq name (codes "vacuum") then vacuum_of common_keys d
    else (if bytes_eq name (codes "unlock") then unlock_of common_keys lane d
    else (if bytes_eq name (codes "fragments") then fragments_of common_keys d else None))))))))

-- the command whose object is the input: its own keys alone are allowed
abbrev pub form_of : ObjectForm → Data → Option Command
form_of Create d = create_of [] d
form_of Evolve d = evolve_of [] d
form_of Write d = write_of [] d

-- a command of this name has an interval
abbrev pub has_interval : List ℕ → Bool
has_interval name = bytes_eq name (codes "read") || bytes_eq name (codes "consolidate")

-- a command whose interval ends at its own stamp: `to` is not there
abbrev pub is_to_stamp : List ℕ → Data → Bool
is_to_stamp name d = has_interval name && not (is_some (get (codes "to") d))

-- the line that an object stands for: its lane is below 8, and its command is one that there can be; where `stop` is not there it has no stop
unfoldable pub line_of : Data → Option Line
line_of d = do
  name ← name_of d
  lane ← optional unsigned_32 0 (codes "lane") d
  at ← if_there unsigned (codes "at") d
  cut ← optional stop Never (codes "stop") d
  command ← command_of lane name d
  when (nat_lt lane 8 && fits command) (record { lane = lane; command = command; at = at; to_stamp = is_to_stamp name d; stop = cut })
