-- What a write is refused for.
use Rattle.std.proofs.Common.{Bool, List, None, Ok, Option, Some, [], cond, false, suc, true, ℕ, ◌++◌, ◌∷◌}
use Rattle.std.specs.Option.{option_or}
use Rattle.std.specs.Prelude.{Err, Result, is_some, nat_lt, option_map, ⊤}
use Rattle.ts_base.specs.declared.heads.Cell.{Cell}
use Rattle.ts_cond.specs.declared.query.NamedBox.{NamedBox}
use Rattle.ts_domain.specs.Domains.{first_bound_outside, first_outside}
use Rattle.ts_domain.specs.declared.boxes.SubBox.{SubBox}
use Rattle.ts_domain.specs.declared.dims.Dim.{Dim}
use Rattle.ts_schema.specs.declared.attrs.Attr.{Attr}
use Rattle.ts_schema.specs.declared.frames.Frame.{Frame}
use Rattle.ts_model.specs.Commands.{◌or_else◌, again_in, attr_column, cells_from, columns, count_of, dim_column, laid, laid_apart, laid_dense, laid_over, laid_sparse, or_clash, outside_in, stray, unless}
use Rattle.ts_model.specs.Queries.{over_most, stray_bound}
use Rattle.ts_base.specs.Held.{Held}
use Rattle.ts_model.specs.Deeds.{History, row_at}
use Rattle.ts_model.specs.Codecs.{Spelled}
use Rattle.ts_model.specs.Told.{Told, history_told}
use Rattle.ts_law.specs.Ends.{IsTrueRefusal, IsUndone}
use Rattle.ts_model.specs.Queries.{box_of, counted_cells, most_cells}
use Rattle.ts_model.specs.declared.answers.Refusal.{Refusal}
use Rattle.ts_model.specs.declared.commands.ColIn.{ColIn}
use Rattle.ts_model.specs.declared.commands.Job.{Job}
use Rattle.ts_model.specs.declared.commands.WriteIn.{WriteIn}
use Rattle.ts_model.specs.declared.answers.Refusal.TheVariants as refusal

-- a refusal of columns
abbrev pub IsOfColumns : Refusal → Type 0
IsOfColumns (refusal.SchemaClash label) = ⊤
IsOfColumns (refusal.Domain dim value) = ⊤
IsOfColumns (refusal.DuplicateCell place) = ⊤
IsOfColumns (refusal.TooMany cells) = ⊤
IsOfColumns _ = ⊥

-- it tells the truth where the job has no deed
pub columns_true : (spelled : Spelled) (opening : Held) (jobs : List Job) (past : History) (told : List Told) (number : ℕ) (job : Job) (r : Refusal) → IsOfColumns r → IsUndone (history_told jobs past told) job
    → IsTrueRefusal spelled opening jobs past told number job r
columns_true spelled opening jobs past told number job (refusal.SchemaClash label) is undone = undone
columns_true spelled opening jobs past told number job (refusal.Domain dim value) is undone = undone
columns_true spelled opening jobs past told number job (refusal.DuplicateCell place) is undone = undone
columns_true spelled opening jobs past told number job (refusal.TooMany cells) is undone = undone
columns_true spelled opening jobs past told number job _ is undone = absurd is

-- each refusal of this answer is one of columns
abbrev pub FailsByColumns : {A : Type 0} → Result A Refusal → Type 0
FailsByColumns (Ok x) = ⊤
FailsByColumns (Err r) = IsOfColumns r

-- what goes on from an answer fails by columns where both do
fails_on : {A B : Type 0} (a : Result A Refusal) (f : A → Result B Refusal) → FailsByColumns a → ((x : A) → FailsByColumns (f x)) → FailsByColumns (a or_else f)
fails_on (Ok x) f first on = on x
fails_on (Err r) f first on = first

-- the clash of a name is of columns
clash_fails : {A : Type 0} (label : List ℕ) (o : Option A) → FailsByColumns (or_clash label o)
clash_fails label None = tt
clash_fails label (Some x) = tt

-- columns in turn fail as each does
columns_fail : {A B : Type 0} (f : A → Result B Refusal) (xs : List A) → ((x : A) → FailsByColumns (f x)) → FailsByColumns (columns f xs)
columns_fail f [] each = tt
columns_fail f (x ∷ xs) each = fails_on (f x) _ (each x) (λ y. fails_on (columns f xs) _ (columns_fail f xs each) (λ ys. tt))

-- each of these refusals is one of columns
abbrev AreOfColumns : Option Refusal → Type 0
AreOfColumns None = ⊤
AreOfColumns (Some r) = IsOfColumns r

-- the first of two refusals of columns is one
or_of_columns : (a b : Option Refusal) → AreOfColumns a → AreOfColumns b → AreOfColumns (option_or a b)
or_of_columns None b first second = second
or_of_columns (Some r) b first second = first

-- a refusal that is made of what was found is of columns where each such is
map_of_columns : {A : Type 0} (f : A → Refusal) (o : Option A) → ((x : A) → IsOfColumns (f x)) → AreOfColumns (option_map f o)
map_of_columns f None each = tt
map_of_columns f (Some x) each = each x

-- a coordinate outside is refused for its column
outside_of_columns : (dims : List Dim) (cells : List Cell) → AreOfColumns (outside_in dims cells)
outside_of_columns dims [] = tt
outside_of_columns dims (cell ∷ cells) = or_of_columns _ _ (map_of_columns _ (first_outside dims cell.coords) (λ o. tt)) (outside_of_columns dims cells)

-- coordinates that come again are refused for their columns
again_of_columns : (before : List Cell) (place : ℕ) (cells : List Cell) → AreOfColumns (again_in before place cells)
again_of_columns before place [] = tt
again_of_columns before place (cell ∷ cells) = from (is_some (row_at cell.coords before)) (again_of_columns (before ++ cell ∷ []) (suc place) cells)
  where
    from : (b : Bool) → AreOfColumns (again_in (before ++ cell ∷ []) (suc place) cells)
        → AreOfColumns (cond b (Some (refusal.DuplicateCell place)) (again_in (before ++ cell ∷ []) (suc place) cells))
    from true later = tt
    from false later = later

-- cells fail by the refusal that stands against them
unless_fails : (cells : List Cell) (o : Option Refusal) → AreOfColumns o → FailsByColumns (unless cells o)
unless_fails cells None is = tt
unless_fails cells (Some r) is = is

-- that there are too many cells is a refusal of columns
most_of_columns : (cells : ℕ) → AreOfColumns (over_most cells)
most_of_columns cells = from (nat_lt most_cells cells)
  where
    from : (b : Bool) → AreOfColumns (cond b (Some (refusal.TooMany cells)) None)
    from true = tt
    from false = tt

-- a write that tells where its cells are is refused for its columns
apart_fails : (dims : List Dim) (attrs : List Attr) (cols : List ColIn) → FailsByColumns (laid_apart dims attrs cols)
apart_fails dims attrs cols =
    fails_on (columns (dim_column cols (count_of dims cols)) dims) _ (columns_fail (dim_column cols (count_of dims cols)) dims (λ d. clash_fails d.name _)) (λ coords.
    fails_on (columns (attr_column cols (count_of dims cols)) attrs) _ (columns_fail (attr_column cols (count_of dims cols)) attrs (λ a. clash_fails a.name _)) (λ rows.
    unless_fails _ _ (or_of_columns _ _ (map_of_columns refusal.SchemaClash (stray dims attrs cols) (λ label. tt))
    (or_of_columns _ _ (outside_of_columns dims (cells_from coords rows 0 (count_of dims cols)))
    (or_of_columns _ _ (again_of_columns [] 0 (cells_from coords rows 0 (count_of dims cols)))
    (most_of_columns (count_of dims cols)))))))

-- a write to a sparse array is refused for its columns, or for its box
sparse_fails : (dims : List Dim) (attrs : List Attr) (named : List NamedBox) (cols : List ColIn) → FailsByColumns (laid_sparse dims attrs named cols)
sparse_fails dims attrs [] cols = apart_fails dims attrs cols
sparse_fails dims attrs (b ∷ named) cols = tt

-- a write to a box is refused for its columns, or for the box
over_fails : (dims : List Dim) (attrs : List Attr) (w : WriteIn) (sub : SubBox) → FailsByColumns (laid_over dims attrs w sub)
over_fails dims attrs w sub =
    fails_on (columns (attr_column w.cols (counted_cells sub)) attrs) _ (columns_fail (attr_column w.cols (counted_cells sub)) attrs (λ a. clash_fails a.name _)) (λ rows.
    unless_fails _ _ (or_of_columns _ _ (map_of_columns refusal.SchemaClash (stray_bound dims w.sub) (λ label. tt))
    (or_of_columns _ _ (map_of_columns refusal.SchemaClash (stray [] attrs w.cols) (λ label. tt))
    (or_of_columns _ _ (map_of_columns _ (first_bound_outside dims sub) (λ o. tt))
    (most_of_columns (counted_cells sub))))))

-- a write is refused for its columns or its box, and for nothing else
pub laid_fails : (frame : Frame) (attrs : List Attr) (w : WriteIn) → FailsByColumns (laid frame attrs w)
laid_fails frame attrs w = by frame.dense
  where
    by : (b : Bool) → FailsByColumns (cond b (laid_dense frame.domain attrs w) (laid_sparse frame.domain attrs w.sub w.cols))
    by true = over_fails frame.domain attrs w (box_of w.sub frame.domain)
    by false = sparse_fails frame.domain attrs w.sub w.cols
