-- Tables of the versions of cells: what they hold, and one version after another.
use Rattle.std.proofs.Common.{◌≡◌, ℕ, zero, suc, ◌+◌, ◌<◌, ◌≤◌, ℤ, List, [], ◌∷◌, length, get_or, drop, map, Option, Some, None, refl, sym, ap, ◌∙◌, arith}
use Rattle.std.specs.Prelude.{IsTrue, replicate, option_map}
use Rattle.std.specs.List.{All}
use Rattle.std.specs.Option.{option_or}
use Rattle.std.proofs.lemmas.List.{drop_more, length-map, get_or-map, length-replicate}
use Rattle.std.proofs.lemmas.List.Elements.{All-nil, All-cons, All-head, All-tail, All-map, All-replicate}
use Rattle.ts_base.specs.declared.heads.Cell.{Cell}
use Rattle.ts_base.specs.declared.heads.Version.{Version}
use Rattle.ts_base.specs.declared.keys.Key.{Key}
use Rattle.ts_base.specs.declared.values.Val.{Val}
use Rattle.ts_domain.specs.declared.dims.Dim.{Dim}
use Rattle.ts_domain.specs.Domains.{first_outside, is_in_domain}
use Rattle.ts_domain.proofs.DomainLemmas.{is_in_domain-first_outside}
use Rattle.ts_table.specs.declared.origins.Origin.{Origin}
use Rattle.ts_table.specs.Tables.{no_version, version_or, versions_from, IsTable}
use Rattle.ts_model.specs.declared.answers.Refusal.{Refusal}
use Rattle.ts_model.specs.declared.answers.Refusal.TheVariants as refusal
use Rattle.ts_model.specs.Commands.{across, cells_from, outside_in, version_in}
use Rattle.ts_model.proofs.Spelled.{neither, none_before}
use Rattle.ts_writer.specs.Tables.{cell_in, cells_in, IsOf, AreOf}

-- ---- versions of cells

-- the versions of one origin that stand in columns
pub laid_versions : (o : Origin) (coords : List (List ℤ)) (rows : List (List Val)) (place count : ℕ)
    → versions_from (o ∷ []) coords rows place (replicate count 0) ≡ map (version_in o.key o.schema) (cells_from coords rows place count)
laid_versions o coords rows place zero = refl
laid_versions o coords rows place (suc count) = ap (λ vs. record { key = o.key; schema = o.schema; coords = across place coords; row = across place rows } ∷ vs) (laid_versions o coords rows (suc place) count)

-- columns that are long enough are those of a table
pub laid_table : (o : Origin) (coords : List (List ℤ)) (rows : List (List Val)) (count : ℕ) → 1 ≤ length coords → length coords ≤ 8 → All (λ (numbers : List ℤ). length numbers ≡ count) coords → All (λ (vals : List Val). length vals ≡ count) rows
    → IsTable (o ∷ []) coords rows (replicate count 0)
laid_table o coords rows count some room coords_long rows_long =
    let many : count ≡ length (replicate count 0) = sym (length-replicate {A = ℕ} count 0) in
    record {
      some = some;
      room = room;
      named = All-replicate (λ (place : ℕ). place < length (o ∷ [])) count 0 (omega arith);
      dims_long = λ k d lt. coords_long k d lt ∙ many;
      attrs_long = λ k d lt. rows_long k d lt ∙ many;
    }

pub ruleset laid = (laid_versions, laid_table)

-- the cells of the versions of cells are those cells
pub cells_back : (key schema : Key) (cells : List Cell) → cells_in (map (version_in key schema) cells) ≡ cells
cells_back key schema [] = refl
cells_back key schema (cell ∷ cells) = ap (λ xs. cell ∷ xs) (cells_back key schema cells)

-- and they are of their write
pub versions_own : (key schema : Key) (cells : List Cell) → AreOf key schema (map (version_in key schema) cells)
versions_own key schema cells = All-map (IsOf key schema) (version_in key schema) cells (λ k d lt. (refl, refl))

-- the coordinates of versions are those of their cells
pub versions_wide : (key schema : Key) (cells : List Cell) (wide : ℕ) → All (λ (cell : Cell). length cell.coords ≡ wide) cells → All (λ (v : Version). length v.coords ≡ wide) (map (version_in key schema) cells)
versions_wide key schema cells wide long = All-map (λ (v : Version). length v.coords ≡ wide) (version_in key schema) cells long

-- versions of one write are the versions of their cells
pub versions_back : (key schema : Key) (vs : List Version) → AreOf key schema vs → map (version_in key schema) (cells_in vs) ≡ vs
versions_back key schema [] own = refl
versions_back key schema (v ∷ vs) own =
    let here = All-head (IsOf key schema) v vs own in
    let rest = versions_back key schema vs (All-tail (IsOf key schema) v vs own) in
    λ i. record { key = sym here.0 i; schema = sym here.1 i; coords = v.coords; row = v.row } ∷ rest i

-- there are as many cells as versions
pub length-cells_in : (vs : List Version) → length (cells_in vs) ≡ length vs
length-cells_in vs = length-map vs cell_in

-- the cell at a place is that of the version there
pub cell_there : (vs : List Version) (place : ℕ) (d : Cell) → place < length vs → get_or (cells_in vs) place d ≡ cell_in (version_or vs place)
cell_there vs place d lt = get_or-map cell_in vs place no_version d lt

-- the cells from a place on begin with that of the version there
pub cells_next : (vs : List Version) (place : ℕ) → place < length vs → drop place (cells_in vs) ≡ cell_in (version_or vs place) ∷ drop (place + 1) (cells_in vs)
cells_next vs place lt =
    drop_more (cells_in vs) place (cell_in no_version) (omega (arith, length-cells_in vs)) ∙ ap (λ c. c ∷ drop (place + 1) (cells_in vs)) (cell_there vs place (cell_in no_version) lt)

-- ---- cells outside the domain

-- a version that lies in the domain
pub outside_next : (dims : List Dim) (vs : List Version) (place : ℕ) (whole : Option Refusal) → place < length vs → first_outside dims (version_or vs place).coords ≡ None
    → outside_in dims (drop place (cells_in vs)) ≡ whole → outside_in dims (drop (place + 1) (cells_in vs)) ≡ whole
outside_next dims vs place whole lt inside was =
    let rest = outside_in dims (drop (place + 1) (cells_in vs)) in
    ap (λ o. option_or (option_map (λ x. refusal.Domain x.dim x.value) o) rest) (sym inside) ∙ ap (outside_in dims) (sym (cells_next vs place lt)) ∙ was

-- a version that lies outside
pub outside_here : (dims : List Dim) (vs : List Version) (place : ℕ) (whole : Option Refusal) (r : Refusal) → place < length vs → Some r ≡ option_map (λ x. refusal.Domain x.dim x.value) (first_outside dims (version_or vs place).coords)
    → outside_in dims (drop place (cells_in vs)) ≡ whole → Some r ≡ whole
outside_here dims vs place whole r lt found was =
    let rest = outside_in dims (drop (place + 1) (cells_in vs)) in
    ap (λ o. option_or o rest) found ∙ ap (outside_in dims) (sym (cells_next vs place lt)) ∙ was

pub ruleset outsides = (outside_next, outside_here)

-- where nothing is found outside all lie in the domain
pub all_inside : (dims : List Dim) (vs : List Version) → All (λ (v : Version). length v.coords ≡ length dims) vs → outside_in dims (cells_in vs) ≡ None → All (λ (v : Version). IsTrue (is_in_domain dims v.coords)) vs
all_inside dims [] long none = All-nil (λ (v : Version). IsTrue (is_in_domain dims v.coords))
all_inside dims (v ∷ vs) long none =
    let parts = neither (option_map (λ o. refusal.Domain o.dim o.value) (first_outside dims v.coords)) (outside_in dims (cells_in vs)) none in
    let inside = none_before (λ o. refusal.Domain o.dim o.value) (first_outside dims v.coords) parts.0 in
    let here = is_in_domain-first_outside 0 dims v.coords (All-head (λ (v : Version). length v.coords ≡ length dims) v vs long) inside in
    All-cons (λ (v : Version). IsTrue (is_in_domain dims v.coords)) v vs here (all_inside dims vs (All-tail (λ (v : Version). length v.coords ≡ length dims) v vs long) parts.1)
