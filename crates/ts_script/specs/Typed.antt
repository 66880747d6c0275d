-- What the types of a command's values ensure, so that nothing has to be tested.
use Rattle.std.specs.Prelude.{◌^◌, ◌&&◌, Bool, true, length, nat_lt}
use Rattle.std.specs.List.{list_all}
use Rattle.std.specs.Option.{option_map_or}
use Rattle.ts_base.specs.Labels.{is_label}
use Rattle.ts_cond.specs.declared.query.Query.{Query}
use Rattle.ts_model.specs.declared.commands.ColIn.{ColIn}
use Rattle.ts_model.specs.declared.commands.Command.{Command}
use Rattle.ts_model.specs.declared.commands.Command.TheVariants.{Create, Evolve, Write, Read, Delete, Consolidate, Vacuum, Unlock, Fragments}
use Rattle.ts_model.specs.Commands.{is_spelled_attr, is_spelled_val, is_text}

-- the name of the column is a label, and each of its values has a spelling
abbrev pub is_typed_col : ColIn → Bool
is_typed_col c = is_label c.name && (nat_lt (length c.values) (2 ^ 64) && list_all is_spelled_val c.values)

-- each name of a field is a label, and the filter is a text
abbrev pub is_typed_query : Query → Bool
is_typed_query q = list_all is_label q.fields && option_map_or is_text q.filter true

-- what the types ensure of the parts of a command that are not tested
abbrev pub is_typed : Command → Bool
is_typed (Create f) = list_all is_spelled_attr f.attrs
is_typed (Evolve change) = list_all is_spelled_attr change.add
is_typed (Write w) = list_all is_typed_col w.cols
is_typed (Read from to query) = nat_lt from (2 ^ 64) && (nat_lt to (2 ^ 64) && is_typed_query query)
is_typed (Delete text) = is_text text
is_typed (Consolidate from to limits) = nat_lt from (2 ^ 64) && nat_lt to (2 ^ 64)
is_typed (Unlock seed lane) = nat_lt seed (2 ^ 64) && nat_lt lane (2 ^ 32)
is_typed Vacuum = true
is_typed Fragments = true

-- the column has a value
abbrev pub has_value : ColIn → Bool
has_value c = nat_lt 0 (length c.values)
