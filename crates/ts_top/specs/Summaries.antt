-- What is printed of a generated script: what came of it, or the first command that was refused.
use Rattle.std.specs.Prelude.{ℕ, pos, ◌^◌, ◌+◌, nat_lt, List, [], ◌∷◌, ◌++◌, codes, decimal, length, slice_get, Bool, true, false, if◌then◌else◌, Option, Some, None}
use Rattle.std.specs.List.{list_any}
use Rattle.std.specs.Option.{unwrap_or}
use Rattle.ts_base.specs.declared.values.Val.{Val}
use Rattle.ts_base.specs.declared.values.Val.TheVariants.{Int}
use Rattle.ts_model.specs.declared.answers.Driven.{Driven}
use Rattle.ts_model.specs.declared.answers.Driven.TheVariants.{Done}
use Rattle.ts_model.specs.declared.answers.Outcome.{Outcome}
use Rattle.ts_model.specs.declared.answers.Outcome.TheVariants.{Written, Read, Consolidated, Vacuumed, Refused, OutOfMemory}
use Rattle.ts_model.specs.declared.answers.Refusal.TheVariants.{NothingToDo}
use Rattle.ts_law.specs.Fresh.{Numbered}
use Rattle.ts_query.specs.Ends.{text_of}
use Rattle.ts_top.specs.Ends.{end_of}
use Rattle.ts_top.specs.declared.summaries.Sums.{Sums}

-- a command found no memory
abbrev pub lacks_memory : Driven Outcome → Bool
lacks_memory (Done OutOfMemory) = true
lacks_memory _ = false

-- a command was refused, other than a consolidation that found nothing to merge
abbrev pub was_refused : Driven Outcome → Bool
was_refused (Done (Refused (NothingToDo count))) = false
was_refused (Done (Refused r)) = true
was_refused _ = false

-- 1 for a write that was done, else 0
abbrev pub written_in : Driven Outcome → ℕ
written_in (Done (Written f)) = 1
written_in _ = 0

-- how many writes were done
abbrev pub writes_in : List (Driven Outcome) → ℕ
writes_in [] = 0
writes_in (x ∷ xs) = written_in x + writes_in xs

-- how many fragments a consolidation merged
abbrev pub sources_in : Driven Outcome → Option ℕ
sources_in (Done (Consolidated f count)) = Some count
sources_in _ = None

-- how many fragments a vacuum removed
abbrev pub removed_in : Driven Outcome → Option ℕ
removed_in (Done (Vacuumed count)) = Some count
removed_in _ = None

-- the rows that a read shows
abbrev pub rows_in : Driven Outcome → Option (List (List Val))
rows_in (Done (Read answer)) = Some answer.rows
rows_in _ = None

-- what the first of the results has that has any, or this
abbrev pub first_in : {A B : Type 0} → (A → Option B) → B → List A → B
first_in part missing [] = missing
first_in part missing (x ∷ xs) = unwrap_or (part x) (first_in part missing xs)

-- a whole number from 0 to 2^63 - 1, and 0 for any other value
abbrev pub number_in : Option Val → ℕ
number_in (Some (Int (pos n))) = if nat_lt n (2 ^ 63) then n else 0
number_in _ = 0

-- the values of rows, behind their one coordinate, added up
abbrev pub sum_of : List (List Val) → ℕ
sum_of [] = 0
sum_of (row ∷ rows) = number_in (slice_get row 1) + sum_of rows

-- what came of the commands: how many writes were done, how many fragments were merged and removed, how many rows were read, and the sum of their values
abbrev pub sums_of : List (Driven Outcome) → Sums
sums_of results = record {
  writes = writes_in results;
  consolidated = first_in sources_in 0 results;
  removed = first_in removed_in 0 results;
  rows = length (first_in rows_in [] results);
  sum = sum_of (first_in rows_in [] results);
}

-- a line of the summary
abbrev pub line_text : List ℕ → ℕ → List ℕ
line_text name number = name ++ codes "\t" ++ decimal number ++ codes "\n"

-- the summary, a line for each number
unfoldable pub sums_text : Sums → List ℕ
sums_text sums =
    (((line_text (codes "writes") sums.writes ++ line_text (codes "consolidated") sums.consolidated) ++ line_text (codes "removed") sums.removed)
    ++ line_text (codes "rows") sums.rows) ++ line_text (codes "sum") sums.sum

-- the end of the first command that was refused
abbrev pub refusal_text : List Numbered → List (Driven Outcome) → List ℕ
refusal_text [] results = []
refusal_text (item ∷ items) [] = []
refusal_text (item ∷ items) (result ∷ results) =
    if was_refused result then text_of item.line.lane item.number item.line.command (end_of result) else refusal_text items results

-- what is printed: nothing where a command found no memory, else the end of the first that was refused, else the summary
unfoldable pub generated_text : List Numbered → List (Driven Outcome) → List ℕ
generated_text items results =
    if list_any lacks_memory results then []
    else (if list_any was_refused results then refusal_text items results else sums_text (sums_of results))

-- the status: 7 where a command found no memory, else 6 where one was refused, else 0
unfoldable pub status_generated : List (Driven Outcome) → ℕ
status_generated results = if list_any lacks_memory results then 7 else (if list_any was_refused results then 6 else 0)
