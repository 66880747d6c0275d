-- What is printed of how commands came out, and the status that this gives.
use Rattle.std.specs.Prelude.{ℕ, List, [], ◌∷◌}
use Rattle.ts_model.specs.declared.answers.Driven.{Driven}
use Rattle.ts_model.specs.declared.answers.Driven.TheVariants.{Done}
use Rattle.ts_model.specs.declared.answers.Outcome.{Outcome}
use Rattle.ts_model.specs.declared.answers.Outcome.TheVariants.{Refused, OutOfMemory}
use Rattle.ts_law.specs.Fresh.{Numbered}
use Rattle.ts_script.specs.declared.words.Report.{Report}
use Rattle.ts_script.specs.declared.words.Report.TheVariants.{Single, Summary}
use Rattle.ts_top.specs.Ends.{ends_text}
use Rattle.ts_top.specs.Summaries.{generated_text, status_generated}

-- what is printed of how the commands of these lines came out: the end of each, or a summary
abbrev pub report_text : Report → List Numbered → List (Driven Outcome) → List ℕ
report_text Summary items results = generated_text items results
report_text _ items results = ends_text items results

-- the status of a single command that ended so: 6 where it was refused, 7 where it found no memory, and else 0
abbrev pub status_alone : Outcome → ℕ
status_alone (Refused r) = 6
status_alone OutOfMemory = 7
status_alone _ = 0

-- the status of these ends, once they are printed: that of the single command, that of a generated script, and 0 of any other
abbrev pub status_printed : Report → List (Driven Outcome) → ℕ
status_printed Single (Done end ∷ []) = status_alone end
status_printed Summary results = status_generated results
status_printed _ _ = 0
