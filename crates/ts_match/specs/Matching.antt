-- Which versions match a condition.
use Rattle.std.specs.Prelude.{Bool, List}
use Rattle.ts_base.specs.declared.heads.Version.{Version}
use Rattle.ts_cond.specs.declared.fields.Pick.{Pick}
use Rattle.ts_cond.specs.Holds.{holds}
use Rattle.ts_cond.specs.Picks.{picked_value}
use Rattle.ts_cond.specs.Tests.{Condition}

-- the version matches the condition, whose fields have their values where the picks say
abbrev pub matches_at : List Pick → Condition → Version → Bool
matches_at picks condition v = holds (picked_value picks condition.fields v.coords v.row) condition.root
