-- What is left of versions once the deletes are over them.
use Rattle.std.specs.Prelude.{List, Option, Some, None, cond, filter, not, option_and_then}
use Rattle.ts_base.specs.declared.heads.Version.{Version}
use Rattle.ts_schema.specs.declared.schemas.Schema.{Schema}
use Rattle.ts_model.specs.declared.states.Reading.{Reading}
use Rattle.ts_model.specs.States.{is_erased_by}

-- the versions that no delete erases
abbrev pub versions_left : Reading → List Schema → List Version → List Version
versions_left r schemas vs = filter (λ v. not (is_erased_by r schemas v)) vs

-- the version in a slot, unless a delete erases it
abbrev pub slot_left : Reading → List Schema → Option Version → Option Version
slot_left r schemas slot = option_and_then (λ v. cond (not (is_erased_by r schemas v)) (Some v) None) slot
