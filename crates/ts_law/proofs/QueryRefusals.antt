-- What a read and a delete are refused for.
use Rattle.std.proofs.Common.{Bool, List, None, Ok, Option, Some, false, true, ℕ}
use Rattle.std.specs.Option.{option_or}
use Rattle.std.specs.Prelude.{Err, Result, if◌then◌else◌, option_map, ◌&&◌, nat_lt, ⊤}
use Rattle.ts_cond.specs.declared.faults.CondFault.{CondFault}
use Rattle.ts_cond.specs.declared.query.Query.{Query}
use Rattle.ts_cond.specs.Machine.{parsed}
use Rattle.ts_cond.specs.Tests.{Condition}
use Rattle.ts_domain.specs.Domains.{first_bound_outside}
use Rattle.ts_domain.specs.declared.dims.Dim.{Dim}
use Rattle.ts_schema.specs.declared.attrs.Attr.{Attr}
use Rattle.ts_schema.specs.declared.frames.Frame.{Frame}
use Rattle.ts_base.specs.Held.{Held}
use Rattle.ts_model.specs.Deeds.{History}
use Rattle.ts_model.specs.Codecs.{Spelled}
use Rattle.ts_model.specs.Told.{Told, history_told}
use Rattle.ts_law.specs.Ends.{IsTrueRefusal, IsUndone}
use Rattle.ts_model.specs.Queries.{box_of, condition_in, counted_cells, delete_condition, fields_in, filter_in, most_cells, or_refused, query_refusal, ready_in, ready_with, some_condition, unknown_in}
use Rattle.ts_model.specs.declared.answers.Refusal.{Refusal}
use Rattle.ts_model.specs.declared.commands.Job.{Job}
use Rattle.ts_model.specs.declared.answers.Refusal.TheVariants as refusal

-- a refusal of a query or of a condition
abbrev pub IsOfQuery : Refusal → Type 0
IsOfQuery (refusal.Domain dim value) = ⊤
IsOfQuery (refusal.TooMany cells) = ⊤
IsOfQuery refusal.DenseArray = ⊤
IsOfQuery (refusal.UnknownField field) = ⊤
IsOfQuery (refusal.Condition fault) = ⊤
IsOfQuery _ = ⊥

-- it tells the truth where the job has no deed
pub query_true : (spelled : Spelled) (opening : Held) (jobs : List Job) (past : History) (told : List Told) (number : ℕ) (job : Job) (r : Refusal) → IsOfQuery r → IsUndone (history_told jobs past told) job
    → IsTrueRefusal spelled opening jobs past told number job r
query_true spelled opening jobs past told number job (refusal.Domain dim value) is undone = undone
query_true spelled opening jobs past told number job (refusal.TooMany cells) is undone = undone
query_true spelled opening jobs past told number job refusal.DenseArray is undone = undone
query_true spelled opening jobs past told number job (refusal.UnknownField field) is undone = undone
query_true spelled opening jobs past told number job (refusal.Condition fault) is undone = undone
query_true spelled opening jobs past told number job _ is undone = absurd is

-- each refusal of this answer is one of a query
abbrev pub FailsByQuery : {A : Type 0} → Result A Refusal → Type 0
FailsByQuery (Ok x) = ⊤
FailsByQuery (Err r) = IsOfQuery r

-- each of these refusals is one of a query
abbrev AreOfQuery : Option Refusal → Type 0
AreOfQuery None = ⊤
AreOfQuery (Some r) = IsOfQuery r

-- the first of two refusals of a query is one
or_of_query : (a b : Option Refusal) → AreOfQuery a → AreOfQuery b → AreOfQuery (option_or a b)
or_of_query None b first second = second
or_of_query (Some r) b first second = first

-- a refusal that is made of what was found is of a query where each such is
map_of_query : {A : Type 0} (f : A → Refusal) (o : Option A) → ((x : A) → IsOfQuery (f x)) → AreOfQuery (option_map f o)
map_of_query f None each = tt
map_of_query f (Some x) each = each x

-- so is that of too many cells
many_of_query : (many : Bool) (cells : ℕ) → AreOfQuery (if many then Some (refusal.TooMany cells) else None)
many_of_query true cells = tt
many_of_query false cells = tt

-- a query is refused for its names, its bounds and its cells
refusal_of_query : (frame : Frame) (attrs : List Attr) (q : Query) → AreOfQuery (query_refusal frame attrs q)
refusal_of_query frame attrs q =
    or_of_query _ _ (map_of_query refusal.UnknownField (unknown_in frame.domain attrs q) (λ label. tt))
    (or_of_query _ _ (map_of_query _ (first_bound_outside frame.domain (box_of q.sub frame.domain)) (λ o. tt))
    (many_of_query (frame.dense && nat_lt most_cells (counted_cells (box_of q.sub frame.domain))) (counted_cells (box_of q.sub frame.domain))))

-- a text is refused for its fault
text_fails : (found : Result Condition CondFault) → FailsByQuery (or_refused found)
text_fails (Ok condition) = tt
text_fails (Err fault) = tt

-- so is that of a filter
some_fails : (found : Result Condition Refusal) → FailsByQuery found → FailsByQuery (some_condition found)
some_fails (Ok condition) fails = tt
some_fails (Err r) fails = fails

-- a filter is refused for its text
filter_fails : (dims : List Dim) (attrs : List Attr) (text : Option (List ℕ)) → FailsByQuery (filter_in dims attrs text)
filter_fails dims attrs None = tt
filter_fails dims attrs (Some text) = some_fails (condition_in dims attrs text) (text_fails (parsed text (fields_in dims attrs)))

-- a query is refused for these
with_fails : (frame : Frame) (attrs : List Attr) (q : Query) (r : Option Refusal) (found : Result (Option Condition) Refusal) → AreOfQuery r → FailsByQuery found → FailsByQuery (ready_with frame attrs q r found)
with_fails frame attrs q (Some r) found first second = first
with_fails frame attrs q None (Err r) first second = second
with_fails frame attrs q None (Ok found) first second = tt

-- a read is refused for its query, and for nothing else
pub ready_fails : (frame : Frame) (attrs : List Attr) (q : Query) → FailsByQuery (ready_in frame attrs q)
ready_fails frame attrs q = with_fails frame attrs q (query_refusal frame attrs q) (filter_in frame.domain attrs q.filter) (refusal_of_query frame attrs q) (filter_fails frame.domain attrs q.filter)

-- a delete from a dense array is refused, and one from a sparse array for its text
dense_fails : (dense : Bool) (found : Result Condition Refusal) → FailsByQuery found → FailsByQuery (if dense then Err refusal.DenseArray else found)
dense_fails true found fails = tt
dense_fails false found fails = fails

-- a delete is refused for its array or its text, and for nothing else
pub delete_condition_fails : (frame : Frame) (attrs : List Attr) (text : List ℕ) → FailsByQuery (delete_condition frame attrs text)
delete_condition_fails frame attrs text = dense_fails frame.dense (condition_in frame.domain attrs text) (text_fails (parsed text (fields_in frame.domain attrs)))
