-- Queries as calls answer them.
use Rattle.std.specs.Prelude.{◌≡◌, ℤ, ◌≤ℤ◌, Bool, true, List, [], ◌∷◌, Option, Some, None, Result, Ok, Err, ⊤, if◌then◌else◌}
use Rattle.std.specs.BTreeMap.{insert_entry}
use Rattle.ts_base.specs.declared.values.Val.{Val}
use Rattle.ts_cond.specs.declared.fields.Pick.{Pick}
use Rattle.ts_cond.specs.declared.query.NamedBox.{NamedBox}
use Rattle.ts_cond.specs.Holds.{holds}
use Rattle.ts_cond.specs.Picks.{picks_of, picked_value}
use Rattle.ts_cond.specs.Tests.{Condition}
use Rattle.ts_schema.specs.declared.attrs.Attr.{Attr}
use Rattle.ts_schema.specs.declared.frames.Frame.{Frame}
use Rattle.ts_model.specs.declared.answers.Refusal.{Refusal}
use Rattle.ts_model.specs.declared.places.GlobalPlace.{GlobalPlace}
use Rattle.ts_model.specs.declared.queries.QueryFault.{QueryFault}
use Rattle.ts_model.specs.declared.queries.QueryFault.TheVariants as fault
use Rattle.ts_model.specs.declared.queries.Ready.{Ready}
use Rattle.ts_model.specs.declared.queries.Shown.{Shown}
use Rattle.ts_model.specs.Places.{place_in, place_cmp}
use Rattle.ts_model.specs.Queries.{attr_fields}

-- the low bound is at most the high one
abbrev pub IsNamedBox : NamedBox → Type 0
IsNamedBox b = b.low ≤ℤ b.high

-- the answer is this one, or there was no memory for it
abbrev pub IsChecked : {A : Type 0} → Result A QueryFault → Result A Refusal → Type 0
IsChecked (Ok ready) wanted = wanted ≡ Ok ready
IsChecked (Err (fault.Refused r)) wanted = wanted ≡ Err r
IsChecked (Err fault.OutOfMemory) wanted = ⊤

-- a cell as a pair of its coordinates and its row
abbrev pub placed : Shown → List ℤ × List Val
placed cell = (cell.coords, cell.row)

-- where a filter finds its values in rows of these attributes
abbrev pub picks_in : List Attr → Option Condition → List Pick
picks_in attrs None = []
picks_in attrs (Some condition) = picks_of (attr_fields attrs) condition.fields

-- a cell with a row passes the filter, whose values are found so
abbrev pub passes_by : List Pick → Option Condition → List ℤ → List Val → Bool
passes_by picks None c row = true
passes_by picks (Some condition) c row = holds (picked_value picks condition.fields c row) condition.root

-- the cells that pass the filter, by their places in the layout, put in from the last cell to the first, behind those that are there
abbrev pub placed_behind : Frame → Ready → List Pick → List Shown → List (GlobalPlace × Shown) → List (GlobalPlace × Shown)
placed_behind frame ready picks [] es = es
placed_behind frame ready picks (cell ∷ cells) es =
    if passes_by picks ready.filter cell.coords cell.row
    then insert_entry place_cmp (placed_behind frame ready picks cells es) (place_in frame ready.layout cell.coords) cell
    else placed_behind frame ready picks cells es
