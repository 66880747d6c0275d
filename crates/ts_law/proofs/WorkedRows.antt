-- The definitions on worked rows: each row computes, so that a reader can see what a definition says.
use Rattle.std.proofs.Common.{Ok, Err, inl, inr, ap, ◌∙◌, arith, ◌≡◌, ℕ, ℤ, Bool, ◌+◌, ◌*◌, ◌^◌, true, false, List, [], ◌∷◌, ◌++◌, Option, Some, None, refl, sym}
use Rattle.std.specs.Prelude.{pos, map}
use Rattle.std.proofs.lemmas.Bool.{true≢false}
use Rattle.std.proofs.lemmas.Option.{none-some, same_Some}
use Rattle.ts_base.specs.Held.{Held}
use Rattle.ts_base.specs.declared.keys.FragKey.{FragKey}
use Rattle.ts_model.specs.Jobs.{frag_of_job}
use Rattle.ts_schema.specs.Evolutions.{schema_at}
use Rattle.ts_store.specs.declared.fate.Fate.{Fate}
use Rattle.ts_store.specs.declared.journal.Entry.{Entry}
use Rattle.ts_base.specs.declared.names.Prefix.TheVariants.{Schemas}
use Rattle.ts_store.specs.Calls.{names_under}
use Rattle.ts_store.specs.Journals.{entry}
use Rattle.ts_model.specs.Codecs.{Codec}
use Rattle.ts_model.proofs.ListLemmas.{Contains-here, Contains-only}
use Rattle.ts_law.specs.Histories.{found_by, deed_entered, history_of}
use Rattle.ts_law.specs.Courses.{Found, IsLookedInto, IsLookOf, RunsShort, course_by}
use Rattle.ts_base.specs.declared.heads.Cell.{Cell}
use Rattle.ts_base.specs.declared.heads.Stop.TheVariants.{Never, Calls}
use Rattle.ts_base.specs.declared.values.Val.{Val}
use Rattle.ts_base.specs.declared.values.Val.TheVariants.{Int}
use Rattle.ts_base.specs.declared.values.ValType.TheVariants.{I64}
use Rattle.ts_domain.specs.declared.dims.Dim.{Dim}
use Rattle.ts_domain.specs.declared.orders.Order.{Order}
use Rattle.ts_domain.specs.declared.orders.Order.TheVariants.{Row, Col}
use Rattle.ts_schema.specs.declared.attrs.Attr.{Attr}
use Rattle.ts_schema.specs.declared.frames.Frame.{Frame}
use Rattle.ts_schema.specs.declared.schemas.Schema.{Schema}
use Rattle.ts_store.specs.declared.fate.Fate.TheVariants as fate
use Rattle.ts_store.specs.declared.call.Call.TheVariants as call
use Rattle.ts_store.specs.declared.call.Reply.{Reply}
use Rattle.ts_store.specs.declared.call.Reply.TheVariants as reply
use Rattle.ts_base.specs.declared.names.LeaseMode.TheVariants.{Shr}
use Rattle.ts_base.specs.declared.names.Name.{Name}
use Rattle.ts_base.specs.declared.names.Name.TheVariants as name
use Rattle.ts_store.specs.declared.call.Call.{Call}
use Rattle.ts_model.specs.declared.commands.Command.TheVariants.{Write, Read, Unlock}
use Rattle.ts_model.specs.declared.commands.ColIn.{ColIn}
use Rattle.ts_model.specs.declared.commands.WriteIn.{WriteIn}
use Rattle.ts_model.specs.declared.commands.Job.{Job}
use Rattle.ts_model.specs.declared.queries.Ready.{Ready}
use Rattle.ts_model.specs.declared.answers.Refusal.TheVariants as refusal
use Rattle.ts_model.specs.declared.deeds.Deed.{Deed}
use Rattle.ts_model.specs.declared.deeds.Deed.TheVariants.{Framed, Declared, Wrote, Erased}
use Rattle.ts_model.specs.Deeds.{History, current_schema}
use Rattle.ts_model.specs.Answers.{shown_at, shown_inside}
use Rattle.ts_model.specs.Queries.{attr_field, delete_condition, ready_in, passes, items_at, fields_of}
use Rattle.ts_cond.specs.declared.nodes.CondOp.TheVariants as op
use Rattle.ts_cond.specs.declared.query.NamedBox.{NamedBox}
use Rattle.ts_cond.specs.declared.query.Query.{Query}
use Rattle.ts_cond.specs.Tests.{Condition}
use Rattle.ts_cond.specs.Tests as tree
use Rattle.ts_domain.specs.declared.orders.Layout.TheVariants as layout
use Rattle.ts_model.specs.Commands.{laid}
use Rattle.ts_model.specs.States.{Exchange, commit_of, get_schema, get_frame, leases_unlocked, list_leases, list_schemas, schemas_in}
use Rattle.ts_model.specs.Told.{Told, history_told}
use Rattle.ts_model.specs.declared.commands.Line.{Line}
use Rattle.ts_law.specs.Fresh.{DoesCommit, IsSpent, in_lane_order, command_at, id_of, job_from}

-- ---- an array of one dimension, whose schema got a second attribute at the time 3

-- the dimension x from 0 to 9
abbrev dim : Dim
dim = record { name = 120 ∷ []; ty = I64; low = pos 0; high = pos 9; extent = pos 5 }

-- the frame of the array
abbrev frame : Frame
frame = record { dense = false; domain = dim ∷ []; cell = Row; tile = Row; capacity = 4 }

-- an attribute of integers with a name and a fill
abbrev attr : ℕ → ℤ → Attr
attr letter fill = record { name = letter ∷ []; ty = I64; nullable = false; fill = Int fill }

-- the first schema has the attribute a
abbrev first : Schema
first = record { key = record { t = 1; id = 1 }; attrs = attr 97 (pos 0) ∷ [] }

-- the second has the attribute b also, which is filled with 7
abbrev second : Schema
second = record { key = record { t = 3; id = 3 }; attrs = attr 97 (pos 0) ∷ attr 98 (pos 7) ∷ [] }

-- the write of one cell, with a stamp, an identifier and the key of its schema
abbrev wrote : ℕ → ℕ → Schema → ℤ → List Val → Deed
wrote at id s x row = Wrote (record { key = record { t = at; id = id }; schema = s.key; cells = record { coords = x ∷ []; row = row } ∷ [] })

-- the frame, the first schema and these deeds
abbrev with_deeds : List Deed → History
with_deeds deeds = Framed frame ∷ Declared first ∷ deeds

-- the cell 5 is written before the evolution, and the cell 6 after it
abbrev evolved : History
evolved = with_deeds (wrote 2 2 first (pos 5) (Int (pos 10) ∷ []) ∷ Declared second ∷ wrote 4 4 second (pos 6) (Int (pos 20) ∷ Int (pos 30) ∷ []) ∷ [])

-- ---- what a history shows

-- the schema that holds is the greatest that is stamped in time
there_before : current_schema evolved 2 ≡ Some first
there_before = refl

-- later the second schema holds
there_after : current_schema evolved 9 ≡ Some second
there_after = refl

-- before the first there is none
there_never : current_schema evolved 0 ≡ None
there_never = refl

-- a cell that was written before an attribute was added shows its fill
fill_shows : shown_at evolved second 0 9 (pos 5 ∷ []) ≡ Some (Int (pos 10) ∷ Int (pos 7) ∷ [])
fill_shows = refl

-- one that was written after it shows what was written
both_show : shown_at evolved second 0 9 (pos 6 ∷ []) ≡ Some (Int (pos 20) ∷ Int (pos 30) ∷ [])
both_show = refl

-- through the earlier schema it shows the first attribute alone
one_shows : shown_at evolved first 0 9 (pos 6 ∷ []) ≡ Some (Int (pos 20) ∷ [])
one_shows = refl

-- a cell that was never written shows nothing
none_shows : shown_at evolved second 0 9 (pos 7 ∷ []) ≡ None
none_shows = refl

-- an earlier interval shows what was written then
earlier_shows : shown_at evolved first 0 3 (pos 6 ∷ []) ≡ None
earlier_shows = refl

-- of two writes of one cell the later stamp shows, in whichever order they were committed
later_shows : shown_at (with_deeds (wrote 3 4 first (pos 5) (Int (pos 1) ∷ []) ∷ wrote 2 5 first (pos 5) (Int (pos 2) ∷ []) ∷ [])) first 0 9 (pos 5 ∷ []) ≡ Some (Int (pos 1) ∷ [])
later_shows = refl

-- a read up to 2 sees only what is stamped up to 2
in_time_shows : shown_at (with_deeds (wrote 3 4 first (pos 5) (Int (pos 1) ∷ []) ∷ wrote 2 5 first (pos 5) (Int (pos 2) ∷ []) ∷ [])) first 0 2 (pos 5 ∷ []) ≡ Some (Int (pos 2) ∷ [])
in_time_shows = refl

-- of equal stamps the greater identifier shows, in either order
greater_shows : shown_at (with_deeds (wrote 4 2 first (pos 5) (Int (pos 20) ∷ []) ∷ wrote 4 3 first (pos 5) (Int (pos 30) ∷ []) ∷ [])) first 0 9 (pos 5 ∷ []) ≡ Some (Int (pos 30) ∷ [])
greater_shows = refl

-- so it is where the greater identifier was committed first
greater_first_shows : shown_at (with_deeds (wrote 4 3 first (pos 5) (Int (pos 30) ∷ []) ∷ wrote 4 2 first (pos 5) (Int (pos 20) ∷ []) ∷ [])) first 0 9 (pos 5 ∷ []) ≡ Some (Int (pos 30) ∷ [])
greater_first_shows = refl

-- ---- what deletes erase

-- the condition that the attribute a is this number
abbrev is_a : ℤ → Condition
is_a n = record { fields = attr_field (attr 97 (pos 0)) ∷ []; root = tree.Compare op.Equal 0 (Int n) }

-- the condition that the attribute b is this number, whose fill is recorded with it
abbrev is_b : ℤ → Condition
is_b n = record { fields = attr_field (attr 98 (pos 7)) ∷ []; root = tree.Compare op.Equal 0 (Int n) }

-- a delete, with a stamp, an identifier and its condition
abbrev erased : ℕ → ℕ → Condition → Deed
erased at id c = Erased (record { key = record { t = at; id = id }; cond = c })

-- the cell 5 with this value of a, written with a stamp and an identifier
abbrev five : ℕ → ℕ → ℤ → Deed
five at id n = wrote at id first (pos 5) (Int n ∷ [])

-- what a read of [a, b] shows at the cell 5
abbrev at_five : List Deed → ℕ → ℕ → Option (List Val)
at_five deeds a b = shown_at (with_deeds deeds) first a b (pos 5 ∷ [])

-- of a delete at the write's own stamp the greater identifier erases
greater_erases : at_five (five 4 2 (pos 10) ∷ erased 4 3 (is_a (pos 10)) ∷ []) 0 9 ≡ None
greater_erases = refl

-- so it does where it was committed first
greater_first_erases : at_five (erased 4 3 (is_a (pos 10)) ∷ five 4 2 (pos 10) ∷ []) 0 9 ≡ None
greater_first_erases = refl

-- the lesser identifier does not
lesser_erases_not : at_five (five 4 3 (pos 10) ∷ erased 4 2 (is_a (pos 10)) ∷ []) 0 9 ≡ Some (Int (pos 10) ∷ [])
lesser_erases_not = refl

-- a cell that does not match stays
other_stays : at_five (five 2 2 (pos 10) ∷ erased 4 4 (is_a (pos 11)) ∷ []) 0 9 ≡ Some (Int (pos 10) ∷ [])
other_stays = refl

-- an erased cell shows no older write
no_older_shows : at_five (five 2 2 (pos 7) ∷ five 3 3 (pos 10) ∷ erased 4 4 (is_a (pos 10)) ∷ []) 0 9 ≡ None
no_older_shows = refl

-- a delete that matches an older write alone erases nothing
older_erases_not : at_five (five 2 2 (pos 7) ∷ five 3 3 (pos 10) ∷ erased 4 4 (is_a (pos 7)) ∷ []) 0 9 ≡ Some (Int (pos 10) ∷ [])
older_erases_not = refl

-- a read before the delete shows the cell
before_shows : at_five (five 2 2 (pos 7) ∷ five 3 3 (pos 10) ∷ erased 4 4 (is_a (pos 10)) ∷ []) 0 3 ≡ Some (Int (pos 10) ∷ [])
before_shows = refl

-- so does one whose interval begins after the delete, of a write that came later
after_shows : at_five (erased 4 4 (is_a (pos 10)) ∷ five 5 5 (pos 10) ∷ []) 5 9 ≡ Some (Int (pos 10) ∷ [])
after_shows = refl

-- a later write shows again, though it has the same value
again_shows : at_five (five 2 2 (pos 10) ∷ erased 4 4 (is_a (pos 10)) ∷ five 5 5 (pos 10) ∷ []) 0 9 ≡ Some (Int (pos 10) ∷ [])
again_shows = refl

-- a row that was written before an attribute was added matches by the fill that the condition records
fill_erases : shown_at (evolved ++ erased 5 5 (is_b (pos 7)) ∷ []) second 0 9 (pos 5 ∷ []) ≡ None
fill_erases = refl

-- so it does by another fill than the one that shows
recorded_fill_erases : shown_at (evolved ++ erased 5 5 (record { fields = attr_field (attr 98 (pos 8)) ∷ []; root = tree.Compare op.Equal 0 (Int (pos 8)) }) ∷ []) second 0 9 (pos 5 ∷ []) ≡ None
recorded_fill_erases = refl

-- the row of the other cell has its own value
own_value_stays : shown_at (evolved ++ erased 5 5 (is_b (pos 7)) ∷ []) second 0 9 (pos 6 ∷ []) ≡ Some (Int (pos 20) ∷ Int (pos 30) ∷ [])
own_value_stays = refl

-- the row counts as it was written: also a value that does not show through the schema there
hidden_erases : shown_at (evolved ++ erased 5 5 (is_b (pos 30)) ∷ []) first 0 9 (pos 6 ∷ []) ≡ None
hidden_erases = refl

-- ---- what queries select

-- a query of everything
abbrev all_of_it : Query
all_of_it = record { sub = []; fields = []; filter = None; layout = layout.Row }

-- bounds of the dimension with a name
abbrev bounds : ℕ → ℤ → ℤ → NamedBox
bounds letter low high = record { name = letter ∷ []; low = low; high = high }

-- it shows all fields of the whole domain
all_ready : ready_in frame second.attrs all_of_it ≡ Ok (record { sub = record { low = pos 0 ∷ []; high = pos 9 ∷ [] }; fields = 0 ∷ 1 ∷ 2 ∷ []; filter = None; layout = layout.Row })
all_ready = refl

-- a field may be named twice
twice_ready : ready_in frame second.attrs (record { sub = bounds 120 (pos 2) (pos 3) ∷ []; fields = (98 ∷ []) ∷ (120 ∷ []) ∷ (98 ∷ []) ∷ []; filter = None; layout = layout.Col })
    ≡ Ok (record { sub = record { low = pos 2 ∷ []; high = pos 3 ∷ [] }; fields = 2 ∷ 0 ∷ 2 ∷ []; filter = None; layout = layout.Col })
twice_ready = refl

-- no dimension is named a: that comes before the bound 10, which lies outside
unknown_before_outside : ready_in frame first.attrs (record { sub = bounds 120 (pos 0) (pos 10) ∷ bounds 97 (pos 0) (pos 1) ∷ []; fields = []; filter = None; layout = layout.Row }) ≡ Err (refusal.UnknownField (97 ∷ []))
unknown_before_outside = refl

-- so does the name of a field that is not there
unknown_field_first : ready_in frame first.attrs (record { sub = bounds 120 (pos 0) (pos 10) ∷ []; fields = (98 ∷ []) ∷ []; filter = None; layout = layout.Row }) ≡ Err (refusal.UnknownField (98 ∷ []))
unknown_field_first = refl

-- the bound 10 lies outside
bound_outside : ready_in frame first.attrs (record { sub = bounds 120 (pos 0) (pos 10) ∷ []; fields = []; filter = None; layout = layout.Row }) ≡ Err (refusal.Domain 0 (pos 10))
bound_outside = refl

-- the filter counts before the fields are cut
filter_before_fields : passes (Some (is_a (pos 10))) first.attrs (pos 5 ∷ []) (Int (pos 10) ∷ []) ≡ true
filter_before_fields = refl

-- fields are shown in the order of their places, each as often as it is named
fields_twice : items_at (1 ∷ 0 ∷ 1 ∷ []) (fields_of (pos 5 ∷ [], Int (pos 10) ∷ [])) ≡ Int (pos 10) ∷ Int (pos 5) ∷ Int (pos 10) ∷ []
fields_twice = refl

-- ---- what columns lay

-- a column with a name
abbrev col : ℕ → List Val → ColIn
col letter values = record { name = letter ∷ []; values = values }

-- a write of columns, with no box
abbrev of_columns : List ColIn → WriteIn
of_columns cols = record { cols = cols; sub = []; layout = Row }

-- the columns give the cells one after the other
two_laid : laid frame first.attrs (of_columns (col 97 (Int (pos 1) ∷ Int (pos 2) ∷ []) ∷ col 120 (Int (pos 3) ∷ Int (pos 4) ∷ []) ∷ []))
    ≡ Ok (record { coords = pos 3 ∷ []; row = Int (pos 1) ∷ [] } ∷ record { coords = pos 4 ∷ []; row = Int (pos 2) ∷ [] } ∷ [])
two_laid = refl

-- the second cell lies where the first does
laid_twice : laid frame first.attrs (of_columns (col 97 (Int (pos 1) ∷ Int (pos 2) ∷ []) ∷ col 120 (Int (pos 3) ∷ Int (pos 3) ∷ []) ∷ [])) ≡ Err (refusal.DuplicateCell 1)
laid_twice = refl

-- the coordinate 10 lies outside
laid_outside : laid frame first.attrs (of_columns (col 97 (Int (pos 1) ∷ []) ∷ col 120 (Int (pos 10) ∷ []) ∷ [])) ≡ Err (refusal.Domain 0 (pos 10))
laid_outside = refl

-- a column for the attribute is wanting
laid_too_few : laid frame first.attrs (of_columns (col 120 (Int (pos 3) ∷ []) ∷ [])) ≡ Err (refusal.SchemaClash (97 ∷ []))
laid_too_few = refl

-- a sparse array takes no box
laid_with_box : laid frame first.attrs (record { cols = col 97 (Int (pos 1) ∷ []) ∷ col 120 (Int (pos 3) ∷ []) ∷ []; sub = bounds 120 (pos 3) (pos 3) ∷ []; layout = Row }) ≡ Err (refusal.SchemaClash (120 ∷ []))
laid_with_box = refl

-- ---- what columns lay over a box of a dense array

-- a dense array of the dimensions x and y, each from 0 to 9
abbrev square : Frame
square = record { dense = true; domain = dim ∷ record { name = 121 ∷ []; ty = I64; low = pos 0; high = pos 9; extent = pos 5 } ∷ []; cell = Row; tile = Row; capacity = 4 }

-- the write of four values over the box of x from 3 to 4 and of y from 7 to 8, in the order of a layout
abbrev four_over : Order → WriteIn
four_over order = record { cols = col 97 (Int (pos 1) ∷ Int (pos 2) ∷ Int (pos 5) ∷ Int (pos 6) ∷ []) ∷ []; sub = bounds 121 (pos 7) (pos 8) ∷ bounds 120 (pos 3) (pos 4) ∷ []; layout = order }

-- a cell of two dimensions, with one value
abbrev cell_at : ℕ → ℕ → ℕ → Cell
cell_at x y value = record { coords = pos x ∷ pos y ∷ []; row = Int (pos value) ∷ [] }

-- by rows the second value stands beside the first in y
laid_by_rows : laid square first.attrs (four_over Row) ≡ Ok (cell_at 3 7 1 ∷ cell_at 3 8 2 ∷ cell_at 4 7 5 ∷ cell_at 4 8 6 ∷ [])
laid_by_rows = refl

-- by columns beside it in x
laid_by_columns : laid square first.attrs (four_over Col) ≡ Ok (cell_at 3 7 1 ∷ cell_at 4 7 2 ∷ cell_at 3 8 5 ∷ cell_at 4 8 6 ∷ [])
laid_by_columns = refl

-- without a box the values are too few for the whole domain
laid_whole : laid square first.attrs (record { cols = col 97 (Int (pos 1) ∷ []) ∷ []; sub = []; layout = Row }) ≡ Err (refusal.SchemaClash (97 ∷ []))
laid_whole = refl

-- a dense array takes no column of a dimension
laid_with_coordinates : laid square first.attrs (record { cols = col 97 (Int (pos 1) ∷ []) ∷ col 120 (Int (pos 3) ∷ []) ∷ []; sub = bounds 120 (pos 3) (pos 3) ∷ bounds 121 (pos 7) (pos 7) ∷ []; layout = Row })
    ≡ Err (refusal.SchemaClash (120 ∷ []))
laid_with_coordinates = refl

-- a bound's name that is no dimension clashes before a bound outside is looked at
laid_over_stray : laid square first.attrs (record { cols = col 97 (Int (pos 1) ∷ Int (pos 2) ∷ []) ∷ []; sub = bounds 120 (pos 9) (pos 10) ∷ bounds 121 (pos 7) (pos 7) ∷ bounds 122 (pos 0) (pos 0) ∷ []; layout = Row })
    ≡ Err (refusal.SchemaClash (122 ∷ []))
laid_over_stray = refl

-- the bound 10 lies outside
laid_over_outside : laid square first.attrs (record { cols = col 97 (Int (pos 1) ∷ Int (pos 2) ∷ []) ∷ []; sub = bounds 120 (pos 9) (pos 10) ∷ bounds 121 (pos 7) (pos 7) ∷ []; layout = Row }) ≡ Err (refusal.Domain 0 (pos 10))
laid_over_outside = refl

-- ---- what a dense array shows

-- a dense array of the dimension x
abbrev line : Frame
line = record { dense = true; domain = dim ∷ []; cell = Row; tile = Row; capacity = 4 }

-- a query of the box from 3 to 6
abbrev some : Ready
some = record { sub = record { low = pos 3 ∷ []; high = pos 6 ∷ [] }; fields = []; filter = None; layout = layout.Row }

-- where nothing was written each attribute of the schema there shows its fill
unwritten_shows : shown_inside evolved line second some 0 9 (pos 4 ∷ []) ≡ Some (Int (pos 0) ∷ Int (pos 7) ∷ [])
unwritten_shows = refl

-- what was written shows as in a sparse array
written_shows : shown_inside evolved line second some 0 9 (pos 5 ∷ []) ≡ Some (Int (pos 10) ∷ Int (pos 7) ∷ [])
written_shows = refl

-- outside the box nothing shows
outside_shows : shown_inside evolved line second some 0 9 (pos 7 ∷ []) ≡ None
outside_shows = refl

-- nor does it in a sparse array where nothing was written
sparse_shows : shown_inside evolved frame second some 0 9 (pos 4 ∷ []) ≡ None
sparse_shows = refl

-- a delete from a dense array is refused, whatever its text is
dense_delete : delete_condition line first.attrs [] ≡ Err refusal.DenseArray
dense_delete = refl

-- ---- what calls do

-- a write of one cell
abbrev a_write : Job
a_write = record { command = Write (of_columns (col 97 (Int (pos 1) ∷ []) ∷ col 120 (Int (pos 3) ∷ []) ∷ [])); at = 5; id = 9; stop = Never }

-- its listing of the schemas
abbrev told_listing : Told
told_listing = record { job = Some 0; call = list_schemas; fate = fate.Done; reply = reply.Names (name.Schema first.key ∷ []); changed = false }

-- the put of its `.wrt`
abbrev told_commit : Reply → Told
told_commit r = record { job = Some 0; call = call.Put (commit_of a_write) []; fate = fate.Done; reply = r; changed = true }

-- the put of the `.wrt` makes the write a deed, of the cells that its columns lay in the schema that it listed
write_is_deed : history_told (a_write ∷ []) (with_deeds []) (told_listing ∷ told_commit reply.Made ∷ []) ≡ with_deeds (wrote 5 9 first (pos 3) (Int (pos 1) ∷ []) ∷ [])
write_is_deed = refl

-- the journal's entry of its listing of the schemas, in a lane
abbrev listing_in : ℕ → Entry
listing_in lane = entry lane list_schemas fate.Done

-- and that of the put of its `.wrt`, in the lane 0
abbrev commit_entry : Fate → Entry
commit_entry f = entry 0 (call.Put (commit_of a_write) []) f

-- a lane found the schemas that were held at its listing
lane_finds : (m : Held) → found_by m 0 None (listing_in 0 ∷ []) ≡ Some (schemas_in (names_under Schemas m))
lane_finds m = refl

-- a listing of another lane tells it nothing
other_lane_finds : (m : Held) → found_by m 0 None (listing_in 1 ∷ []) ≡ None
other_lane_finds m = refl

-- nor does one that failed
failed_listing_finds : (m : Held) → found_by m 0 None (entry 0 list_schemas fate.FailedSkipped ∷ []) ≡ None
failed_listing_finds m = refl

-- where it found that schema, the put of the `.wrt` is the same deed, by the identifier that its name carries
entry_is_deed : deed_entered (a_write ∷ []) (with_deeds []) (Some (first.key ∷ [])) (call.Put (commit_of a_write) []) ≡ Some (wrote 5 9 first (pos 3) (Int (pos 1) ∷ []))
entry_is_deed = refl

-- where it found none it is no deed
unfound_is_none : deed_entered (a_write ∷ []) (with_deeds []) None (call.Put (commit_of a_write) []) ≡ None
unfound_is_none = refl

-- nor is a put under an identifier that no job has
stray_is_none : deed_entered (a_write ∷ []) (with_deeds []) (Some (first.key ∷ [])) (call.Put (commit_of (record a_write { id = 8 })) []) ≡ None
stray_is_none = refl

-- a put that took no effect appends nothing
skipped_put_tells_not : (m : Held) → history_of (with_deeds []) m (a_write ∷ []) (listing_in 0 ∷ commit_entry fate.FailedSkipped ∷ []) ≡ with_deeds []
skipped_put_tells_not m = refl

-- the put of the `.wrt` commits the identifier of the write
write_commits : DoesCommit (told_commit reply.Made) 9
write_commits = record { frag = frag_of_job a_write; bytes = []; puts = refl; changed = refl; carries = refl }

-- and no other
commits_no_other : DoesCommit (told_commit reply.Made) 8 → ⊥
commits_no_other is =
    let same : frag_of_job a_write ≡ is.frag = cc in
    let id : 9 ≡ 8 = ap (λ (f : FragKey). f.id) same ∙ is.carries in
    absurd (omega (arith, id))

-- a put that changed nothing commits none
skipped_commits_not : DoesCommit (record (told_commit reply.Failed) { changed = false }) 9 → ⊥
skipped_commits_not is = true≢false (sym is.changed)

-- so the identifier is spent from then on, whatever was there at the beginning
write_spends : (opening : Held) → IsSpent opening (with_deeds []) (told_listing ∷ told_commit reply.Made ∷ []) 9
write_spends opening = inr (told_commit reply.Made, (1, omega arith, refl), write_commits)

-- a read in a lane: it has a stamp of its own, or it ends at the number that the clock gives
abbrev read_in : ℕ → Option ℕ → Bool → Line
read_in lane at to_stamp = record { lane = lane; command = Read 0 0 all_of_it; at = at; to_stamp = to_stamp; stop = Never }

-- the identifiers of a script's commands in lane order: the seed, the lane, and the number of the command there from 1
ids : map (λ item. id_of 7 (item.line).lane item.number) (in_lane_order (read_in 7 None false ∷ read_in 0 (Some 5) false ∷ read_in 7 None true ∷ read_in 0 None true ∷ []))
    ≡ (7 * 2 ^ 64 + 1) ∷ (7 * 2 ^ 64 + 2) ∷ (7 * 2 ^ 64 + 7 * 2 ^ 32 + 1) ∷ (7 * 2 ^ 64 + 7 * 2 ^ 32 + 2) ∷ []
ids = refl

-- a line of a lane that there is not is none of them
no_ninth_lane : in_lane_order (read_in 8 None false ∷ []) ≡ []
no_ninth_lane = refl

-- a read ends at its stamp where it asks for that
ends_at_stamp : command_at 9 (read_in 0 None true) 7 ≡ Read 0 7 all_of_it
ends_at_stamp = refl

ends_where_it_says : command_at 9 (read_in 0 None false) 7 ≡ Read 0 0 all_of_it
ends_where_it_says = refl

-- an unlock in a lane, stopped after so many calls
abbrev unlock_in : ℕ → ℕ → Line
unlock_in lane most = record { lane = lane; command = Unlock 0 lane; at = Some 5; to_stamp = false; stop = Calls most }

-- it has the seed of its run
unlock_has_seed : command_at 9 (unlock_in 3 2) 5 ≡ Unlock 9 3
unlock_has_seed = refl

-- the job of it has the seed that is in its identifier, and stops where the line says
unlock_job : job_from (id_of 9 3 1) (unlock_in 3 2) 5 ≡ record { command = Unlock 9 3; at = 5; id = id_of 9 3 1; stop = Calls 2 }
unlock_job = refl

-- ---- unlocks

-- the lease of a read with an identifier
abbrev lease_with : ℕ → Name
lease_with id = name.Lease (record { t = 5; id = id }) Shr

-- of the leases that were held it removes that of another run and that of its own lane, and leaves that of another lane of its run
dead : leases_unlocked 9 3 (lease_with (id_of 8 0 1) ∷ lease_with (id_of 9 2 1) ∷ lease_with (id_of 9 3 1) ∷ []) ≡ lease_with (id_of 8 0 1) ∷ lease_with (id_of 9 3 1) ∷ []
dead = refl

-- its course where it found two of them
unlock_course : {F : Type 0} (codec : Codec F) (job : Job) (found : Found) → course_by codec job (record found { leases = lease_with (id_of 8 0 1) ∷ lease_with (id_of 9 3 1) ∷ [] }) (Unlock 9 3)
    ≡ list_leases ∷ call.Remove (lease_with (id_of 8 0 1)) ∷ call.Remove (lease_with (id_of 9 3 1)) ∷ []
unlock_course codec job found = refl

-- it may look at no object
unlock_looks_not : {F : Type 0} (codec : Codec F) (job : Job) (found : Found) (trace : List Exchange) (c : Call) → IsLookOf codec (record job { command = Unlock 9 3 }) found trace c → ⊥
unlock_looks_not codec job found trace c look = look

-- ---- where a job may be out of memory

-- the write is not so once its commit was put
whole_write : RunsShort a_write (call.Put (commit_of a_write) []) reply.Made [] → ⊥
whole_write left = left refl

-- nor where the put of its commit failed
failed_write : RunsShort a_write (call.Put (commit_of a_write) []) reply.Failed [] → ⊥
failed_write left = left refl

-- it may be so after a put before that of its commit, and where the store had no memory for that
part_write : (n : Name) (bytes : List ℕ) → RunsShort a_write (call.Put n bytes) reply.Made (call.Put (commit_of a_write) [] ∷ [])
part_write n bytes e = cc

no_room_write : RunsShort a_write (call.Put (commit_of a_write) []) reply.NoMemory []
no_room_write = tt

-- an unlock is not so after a removal, whatever is left
part_unlock : (job : Job) (n : Name) (left : List Call) → RunsShort (record job { command = Unlock 9 3 }) (call.Remove n) reply.Removed left → ⊥
part_unlock job n left (lease, own, more, is) = none-some lease own

-- a read may be so after its last listing
listed_read : (job : Job) → RunsShort job list_schemas (reply.Names []) []
listed_read job = tt

-- ---- what a job may look at

-- what the write was told of the schemas
abbrev told_schemas : List Exchange
told_schemas = record { call = list_schemas; reply = reply.Names (name.Schema first.key ∷ []) } ∷ []

-- it may get the schema there
write_looks : {F : Type 0} (codec : Codec F) (found : Found) → IsLookOf codec a_write found told_schemas (get_schema first.key)
write_looks codec found = inl (first.key, record { names = name.Schema first.key ∷ []; listed = Contains-here _ []; newest = refl }, refl)

-- but not another schema
write_looks_not : {F : Type 0} (codec : Codec F) (found : Found) → IsLookOf codec a_write found told_schemas (get_schema second.key) → ⊥
write_looks_not codec found (inl (k, is, same)) =
    let one : reply.Names (name.Schema first.key ∷ []) ≡ reply.Names is.names = ap (λ x. x.reply) (Contains-only _ _ is.listed) in
    let names : name.Schema first.key ∷ [] ≡ is.names = cc in
    let key : k ≡ second.key = cc in
    let there : Some first.key ≡ Some k = ap (λ ns. schema_at (schemas_in ns) 5) names ∙ is.newest in
    let apart : 1 ≡ 3 = ap (λ q. q.t) (same_Some first.key k there ∙ key) in
    absurd (omega (arith, apart))
write_looks_not codec found (inr (s, is, got, same)) = cc

-- nor the frame before it has that schema
write_looks_not_yet : {F : Type 0} (codec : Codec F) (found : Found) → IsLookOf codec a_write found told_schemas get_frame → ⊥
write_looks_not_yet codec found (inl (k, is, same)) = cc
write_looks_not_yet codec found (inr (s, is, (bytes, got, spells), same)) =
    let one : reply.Names (name.Schema first.key ∷ []) ≡ reply.Bytes bytes = ap (λ x. x.reply) (Contains-only _ _ got) in
    cc

-- a fragment whose span lies behind the interval is not near
far_is_not_near : (trace : List Exchange) → IsLookedInto trace 0 5 (record { t1 = 6; t2 = 7; id = 9; v = 1 }) → ⊥
far_is_not_near trace (names, told, among, in_time) = cc
