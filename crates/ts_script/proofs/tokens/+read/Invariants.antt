use Rattle.std.proofs.Common.{◌≡◌, ◌+◌, ◌*◌, ◌≤◌, [], ◌∷◌, length, map}
use Rattle.serde_json.specs.Data.{no_members}
use Rattle.ts_script.specs.Readings.{items_from, members_from}
use Rattle.ts_script.specs.Trees.{data_of, view, members_view}
use Rattle.ts_script.proofs.tokens.+read.Given as goal

abbrev pub decreases-read_from : goal.decreases-read_from
decreases-read_from l = 4 * l.depth

abbrev pub decreases-read_value : goal.decreases-read_value
decreases-read_value l = 4 * l.depth + 1

abbrev pub decreases-read_rest : goal.decreases-read_rest
decreases-read_rest l = 4 * l.depth + 2

abbrev pub decreases-read_members : goal.decreases-read_members
decreases-read_members l = 4 * l.depth + 2

abbrev pub decreases-read_list : goal.decreases-read_list
decreases-read_list l = 4 * l.depth + 3

abbrev pub invariant-read_list-items : goal.invariant-read_list-items
invariant-read_list-items l = record {
  reads : items_from l.depth [] l.initial.reader ≡ items_from l.depth (map data_of l.cells.column) l.reader;
  shorter : length l.reader ≤ length l.initial.reader;
}

abbrev pub decreases-read_list-items : goal.decreases-read_list-items
decreases-read_list-items l = length l.reader

abbrev pub invariant-read_rest-items : goal.invariant-read_rest-items
invariant-read_rest-items l = record {
  reads : items_from l.depth (view l.fn.first ∷ []) l.initial.reader ≡ items_from l.depth (map view l.list.items) l.reader;
  shorter : length l.reader ≤ length l.initial.reader;
}

abbrev pub decreases-read_rest-items : goal.decreases-read_rest-items
decreases-read_rest-items l = length l.reader

abbrev pub invariant-read_members-members : goal.invariant-read_members-members
invariant-read_members-members l = record {
  reads : members_from l.depth no_members l.initial.reader ≡ members_from l.depth (members_view l.members.entries) l.reader;
  shorter : length l.reader ≤ length l.initial.reader;
}

abbrev pub decreases-read_members-members : goal.decreases-read_members-members
decreases-read_members-members l = length l.reader
