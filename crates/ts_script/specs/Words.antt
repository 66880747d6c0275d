-- The words of a command line: what clap takes of them, and what they then ask for.
use Rattle.std.specs.Prelude.{ℕ, ◌^◌, List, [], codes, Bool, true, false, not, nat_lt, is_some, if◌then◌else◌, Option, Some, None, option_map, map}
use Rattle.std.specs.Option.{option_map_or, unwrap_or}
use Rattle.std.specs.Borrow.{Bor}
use Rattle.std.specs.Str.{bytes_eq}
use Rattle.clap.specs.Walk.{Row, Rule, Text, first_of, is_empty}
use Rattle.clap.specs.Simple.{App, new_app, new_rule, on_top, subcommand_of, with_rule, with_subcommand}
use Rattle.clap.specs.Faults.{fault_of}
use Rattle.ts_base.specs.declared.heads.Stop.TheVariants.{Never}
use Rattle.ts_domain.specs.declared.orders.Layout.{Layout}
use Rattle.ts_domain.specs.declared.orders.Layout.TheVariants as layouts
use Rattle.ts_cond.specs.declared.query.NamedBox.{NamedBox}
use Rattle.ts_model.specs.declared.commands.Command.{Command}
use Rattle.ts_model.specs.declared.commands.Command.TheVariants.{Read, Delete, Consolidate, Vacuum, Unlock, Fragments}
use Rattle.ts_model.specs.declared.commands.Line.{Line}
use Rattle.ts_model.specs.Commands.{fits}
use Rattle.ts_script.specs.declared.words.Asked.{Asked}
use Rattle.ts_script.specs.declared.words.Asked.TheVariants as asks
use Rattle.ts_script.specs.declared.words.ObjectForm.{ObjectForm}
use Rattle.ts_script.specs.declared.words.ObjectForm.TheVariants as form
use Rattle.ts_script.specs.Shapes.{◌>>=◌, when}
use Rattle.ts_script.specs.Values.{layout_named}
use Rattle.ts_script.specs.Options.{cell_count_of, number_of, labels_of, boxes_of}

-- the words, each as its bytes
abbrev pub word_texts : List (Bor (List ℕ)) → List (List ℕ)
word_texts words = map (λ word. word.now) words

-- ---- the command line, as clap has it

-- an option `--NAME VALUE`
abbrev pub option_named : Text → Rule
option_named name = record (new_rule name) { long = Some name }

-- `create`, `evolve`, `write` or `vacuum`, whose option is the stamp
unfoldable pub stamped_app : Text → App
stamped_app name = with_rule (new_app name) (option_named (codes "at"))

-- `read` or `consolidate`, with its interval
unfoldable pub interval_app : Text → App
interval_app name = with_rule (with_rule (stamped_app name) (option_named (codes "from"))) (option_named (codes "to"))

-- `read`
unfoldable pub read_app : App
read_app = with_rule (with_rule (with_rule (with_rule (interval_app (codes "read"))
    (option_named (codes "where"))) (option_named (codes "fields"))) (option_named (codes "box"))) (option_named (codes "layout"))

-- `delete`, which wants a `where`
unfoldable pub delete_app : App
delete_app = with_rule (with_rule (new_app (codes "delete")) (option_named (codes "at"))) (record (option_named (codes "where")) { required = true })

-- `consolidate`
unfoldable pub consolidate_app : App
consolidate_app = with_rule (with_rule (interval_app (codes "consolidate")) (option_named (codes "min"))) (option_named (codes "max"))

-- `gen`, whose one word is how many cells there are to be
unfoldable pub gen_app : App
gen_app = with_rule (new_app (codes "gen")) (record (new_rule (codes "cells")) { required = true })

-- `unlock`, `fragments` or `play`, which have no options
unfoldable pub bare_app : Text → App
bare_app name = new_app name

-- the words are those after the program's name and the store
abbrev pub without_name : App → App
without_name app = on_top (λ s. record s { no_binary_name = true }) app

-- the commands whose objects are the input
unfoldable pub objects_app : App
objects_app =
    with_subcommand (with_subcommand (with_subcommand (without_name (new_app (codes "tilestore")))
    (stamped_app (codes "create")).top) (stamped_app (codes "evolve")).top) (stamped_app (codes "write")).top

-- and those that have options of their own
unfoldable pub optioned_app : App
optioned_app = with_subcommand (with_subcommand (with_subcommand objects_app read_app.top) delete_app.top) consolidate_app.top

-- and those that look after what was written
unfoldable pub upkeep_app : App
upkeep_app =
    with_subcommand (with_subcommand (with_subcommand optioned_app (stamped_app (codes "vacuum")).top) (bare_app (codes "unlock")).top) (bare_app (codes "fragments")).top

-- the whole command line
unfoldable pub tilestore_app : App
tilestore_app = with_subcommand (with_subcommand upkeep_app gen_app.top) (bare_app (codes "play")).top

-- the command that the words name, with what was found for its options, where clap takes them
unfoldable pub parsed : List Text → Option (Text × List Row)
parsed words = if is_empty (fault_of tilestore_app words) then subcommand_of tilestore_app words else None

-- ---- what they ask for

-- the value of an option, in this form, if the option is there
abbrev pub value_in : {A : Type 0} → (Text → Option A) → Option Text → Option (Option A)
value_in read given = option_map_or (λ text. option_map Some (read text)) given (Some None)

-- the number of an option, if the option is there
abbrev pub number_in : List Row → Text → Option (Option ℕ)
number_in rows name = value_in number_of (first_of name rows)

-- the number of 32 bits of an option, or this one if the option is not there
abbrev pub limit_in : List Row → Text → ℕ → Option ℕ
limit_in rows name missing = do
  given ← number_in rows name
  when (nat_lt (unwrap_or given missing) (2 ^ 32)) (unwrap_or given missing)

-- the fields that are asked for
abbrev pub fields_in : Option Text → Option (List (List ℕ))
fields_in given = option_map_or labels_of given (Some [])

-- the box that is asked for
abbrev pub box_in : Option Text → Option (List NamedBox)
box_in given = option_map_or boxes_of given (Some [])

-- the layout that is asked for
abbrev pub layout_in : Option Text → Option Layout
layout_in given = option_map_or layout_named given (Some layouts.Row)

-- the line of a single command with this stamp: it is in lane 0, its interval ends at the stamp or not, and it has no stop
abbrev pub line_alone : Option ℕ → Bool → Command → Line
line_alone at to_stamp command = record { lane = 0; command = command; at = at; to_stamp = to_stamp; stop = Never }

-- a command whose object is the input
unfoldable pub object_asked : ObjectForm → List Row → Option Asked
object_asked form rows = number_in rows (codes "at") >>= λ at. Some (asks.Object form at)

-- a read, which ends at its own stamp where it does not say else
unfoldable pub read_asked : List Row → Option Asked
read_asked rows = do
  at ← number_in rows (codes "at")
  from ← number_in rows (codes "from")
  to ← number_in rows (codes "to")
  sub ← box_in (first_of (codes "box") rows)
  fields ← fields_in (first_of (codes "fields") rows)
  order ← layout_in (first_of (codes "layout") rows)
  command ← Some (Read (unwrap_or from 0) (unwrap_or to 0) (record { sub = sub; fields = fields; filter = first_of (codes "where") rows; layout = order }))
  when (fits command) (asks.Command (line_alone at (not (is_some to)) command))

-- a delete
unfoldable pub delete_asked : List Row → Option Asked
delete_asked rows = do
  at ← number_in rows (codes "at")
  text ← first_of (codes "where") rows
  when (fits (Delete text)) (asks.Command (line_alone at false (Delete text)))

-- a consolidation, whose interval ends at its own stamp where it does not say else
unfoldable pub consolidate_asked : List Row → Option Asked
consolidate_asked rows = do
  at ← number_in rows (codes "at")
  from ← number_in rows (codes "from")
  to ← number_in rows (codes "to")
  min ← limit_in rows (codes "min") 2
  max ← limit_in rows (codes "max") 64
  command ← Some (Consolidate (unwrap_or from 0) (unwrap_or to 0) (record { min = min; max = max }))
  when (fits command) (asks.Command (line_alone at (not (is_some to)) command))

-- a vacuum
unfoldable pub vacuum_asked : List Row → Option Asked
vacuum_asked rows = number_in rows (codes "at") >>= λ at. Some (asks.Command (line_alone at false Vacuum))

-- a generated script of so many cells
unfoldable pub generate_asked : List Row → Option Asked
generate_asked rows = do
  text ← first_of (codes "cells") rows
  cells ← cell_count_of text
  Some (asks.Generate cells)

-- what a command of this name asks for, with what was found for its options; one that has none is stamped by the clock
unfoldable pub asked_by : Text → List Row → Option Asked
asked_by name rows =
    if bytes_eq name (codes "create") then object_asked form.Create rows
    else (if bytes_eq name (codes "evolve") then object_asked form.Evolve rows
    else (if bytes_eq name (codes "write") then object_asked form.Write rows
    else (if bytes_eq name (codes "read") then read_asked rows
    else (if bytes_eq name (codes "delete") then delete_asked rows
    else (if bytes_eq name (codes "consolidate") then consolidate_asked rows
    else (if bytes_eq name (codes "vacuum") then vacuum_asked rows
    else (if bytes_eq name (codes "unlock") then Some (asks.Command (line_alone None false (Unlock 0 0)))
    else (if bytes_eq name (codes "fragments") then Some (asks.Command (line_alone None false Fragments))
    else (if bytes_eq name (codes "gen") then generate_asked rows
    else (if bytes_eq name (codes "play") then Some asks.Play else None))))))))))

-- what the words ask for, if it is something that can be done
unfoldable pub asked : List Text → Option Asked
asked words = parsed words >>= λ found. asked_by found.0 found.1
