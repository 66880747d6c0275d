-- The printed text of all ends of a script.
use Rattle.std.specs.Prelude.{ℕ, List, [], ◌∷◌, ◌++◌, Option, Some, None}
use Rattle.ts_model.specs.declared.answers.Driven.{Driven}
use Rattle.ts_model.specs.declared.answers.Driven.TheVariants as driven
use Rattle.ts_model.specs.declared.answers.Outcome.{Outcome}
use Rattle.ts_law.specs.Fresh.{Numbered}
use Rattle.ts_query.specs.Ends.{text_of}

-- the end of a command, unless it was stopped before
abbrev pub end_of : Driven Outcome → Option Outcome
end_of (driven.Done end) = Some end
end_of driven.Stopped = None

-- how the commands of these lines came out, each under its lane and its number there
abbrev pub ends_text : List Numbered → List (Driven Outcome) → List ℕ
ends_text [] results = []
ends_text (item ∷ items) [] = []
ends_text (item ∷ items) (result ∷ results) = text_of item.line.lane item.number item.line.command (end_of result) ++ ends_text items results
