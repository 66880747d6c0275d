-- The places of the versions that a query selects.
use Rattle.std.specs.Prelude.{ℕ, Bool, List, [], ◌∷◌, Option, if◌then◌else◌}
use Rattle.std.specs.BTreeMap.{insert_entry}
use Rattle.ts_base.specs.declared.heads.Version.{Version}
use Rattle.ts_cond.specs.declared.fields.Pick.{Pick}
use Rattle.ts_cond.specs.Tests.{Condition}
use Rattle.ts_schema.specs.declared.frames.Frame.{Frame}
use Rattle.ts_table.specs.Tables.{version_or}
use Rattle.ts_model.specs.declared.places.GlobalPlace.{GlobalPlace}
use Rattle.ts_model.specs.declared.queries.Ready.{Ready}
use Rattle.ts_model.specs.Places.{place_in, place_cmp}
use Rattle.ts_model.specs.Selections.{passes_by}

-- the version at a place passes the filter, whose values are found so
abbrev pub passes_at : List Pick → Option Condition → List Version → ℕ → Bool
passes_at picks filter versions place = passes_by picks filter (version_or versions place).coords (version_or versions place).row

-- places by where their cells stand in the layout, and one more if its version passes the filter
abbrev pub with_place : Frame → Ready → List Pick → List Version → ℕ → List (GlobalPlace × ℕ) → List (GlobalPlace × ℕ)
with_place frame ready picks versions place es =
    if passes_at picks ready.filter versions place then insert_entry place_cmp es (place_in frame ready.layout (version_or versions place).coords) place else es

-- the places whose versions pass the filter, by where their cells stand in the layout, put in from the last to the first
abbrev pub placed_behind : Frame → Ready → List Pick → List Version → List ℕ → List (GlobalPlace × ℕ)
placed_behind frame ready picks versions [] = []
placed_behind frame ready picks versions (place ∷ places) = with_place frame ready picks versions place (placed_behind frame ready picks versions places)
