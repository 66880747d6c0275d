use Rattle.std.proofs.Common.{◌≡◌, take}
use Rattle.std.specs.Option.{option_copied}
use Rattle.ts_model.specs.Deeds.{current_schema}
use Rattle.ts_model.proofs.finding.current_schema.Given as goal

-- the schema there of the deeds so far
abbrev pub invariant-loop-deed : goal.invariant-loop-deed
invariant-loop-deed l = option_copied l.last ≡ current_schema (take l.deed-index l.deeds) l.b
