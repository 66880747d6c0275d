-- The printed text of ends.
use Rattle.std.specs.Prelude.{ℕ, List, [], ◌∷◌, ◌++◌, length, codes, decimal, Option, Some, None}
use Rattle.ts_base.specs.declared.keys.FragKey.{FragKey}
use Rattle.ts_base.specs.declared.names.Name.{Name}
use Rattle.ts_base.specs.Spelling.{frag_text, name_text, stamp_text}
use Rattle.ts_model.specs.declared.commands.Command.{Command}
use Rattle.ts_model.specs.declared.commands.Command.TheVariants as command
use Rattle.ts_model.specs.declared.answers.Outcome.{Outcome}
use Rattle.ts_model.specs.declared.answers.Outcome.TheVariants as outcome
use Rattle.ts_query.specs.Refusals.{refusal_text}
use Rattle.ts_query.specs.Rows.{rows_text}

-- how a command ended, but for what a read or a listing shows: of that the numbers of rows and of clipped fragments, or of names; of a consolidation the fragment and the number of its sources; of a vacuum the number of fragments, and of an unlock that of leases
unfoldable pub outcome_text : Outcome → List ℕ
outcome_text outcome.Created = codes "ok\n"
outcome_text (outcome.Evolved key) = codes "ok\t" ++ stamp_text key ++ codes "\n"
outcome_text (outcome.Written frag) = codes "ok\t" ++ frag_text frag ++ codes "\n"
outcome_text (outcome.Read answer) = codes "ok\t" ++ decimal (length answer.rows) ++ codes "\t" ++ decimal (length answer.clipped) ++ codes "\n"
outcome_text (outcome.Deleted frag) = codes "ok\t" ++ frag_text frag ++ codes "\n"
outcome_text (outcome.Consolidated frag count) = codes "ok\t" ++ frag_text frag ++ codes "\t" ++ decimal count ++ codes "\n"
outcome_text (outcome.Vacuumed count) = codes "ok\t" ++ decimal count ++ codes "\n"
outcome_text (outcome.Unlocked count) = codes "ok\t" ++ decimal count ++ codes "\n"
outcome_text (outcome.Listed names) = codes "ok\t" ++ decimal (length names) ++ codes "\n"
outcome_text (outcome.Refused refusal) = codes "refused\t" ++ refusal_text refusal ++ codes "\n"
outcome_text outcome.OutOfMemory = codes "memory\n"

-- the line of a clipped fragment
unfoldable pub clipped_line : FragKey → List ℕ
clipped_line frag = codes "clipped\t" ++ frag_text frag ++ codes "\n"

-- the clipped fragments, a line for each
abbrev pub clipped_text : List FragKey → List ℕ
clipped_text [] = []
clipped_text (frag ∷ frags) = clipped_line frag ++ clipped_text frags

-- the line of a name
unfoldable pub name_line : Name → List ℕ
name_line name = name_text name ++ codes "\n"

-- the names of a listing, a line for each
abbrev pub names_text : List Name → List ℕ
names_text [] = []
names_text (name ∷ names) = name_line name ++ names_text names

-- what a read shows: the clipped fragments, and then the rows; what a listing shows: the names
abbrev pub shown_text : Option Outcome → List ℕ
shown_text (Some (outcome.Read answer)) = clipped_text answer.clipped ++ rows_text answer.types answer.rows
shown_text (Some (outcome.Listed names)) = names_text names
shown_text _ = []

-- the name of a command
abbrev pub command_name : Command → List ℕ
command_name (command.Create made) = codes "create"
command_name (command.Evolve change) = codes "evolve"
command_name (command.Write cells) = codes "write"
command_name (command.Read from to query) = codes "read"
command_name (command.Delete text) = codes "delete"
command_name (command.Consolidate from to limits) = codes "consolidate"
command_name command.Vacuum = codes "vacuum"
command_name (command.Unlock seed lane) = codes "unlock"
command_name command.Fragments = codes "fragments"

-- how a command came out: its end, or that it was stopped
unfoldable pub result_text : Option Outcome → List ℕ
result_text (Some end) = outcome_text end
result_text None = codes "stopped\n"

-- the line of how a command came out: its lane and its number there, its name, and the result
unfoldable pub end_text : ℕ → ℕ → List ℕ → Option Outcome → List ℕ
end_text lane number name result = decimal lane ++ codes "." ++ decimal number ++ codes "\t" ++ name ++ codes "\t" ++ result_text result

-- how a command of this name came out: its line, and behind it the lines of what it shows
abbrev pub named_text : ℕ → ℕ → List ℕ → Option Outcome → List ℕ
named_text lane number name result = end_text lane number name result ++ shown_text result

-- the same of a command, under its own name
abbrev pub text_of : ℕ → ℕ → Command → Option Outcome → List ℕ
text_of lane number command result = named_text lane number (command_name command) result
