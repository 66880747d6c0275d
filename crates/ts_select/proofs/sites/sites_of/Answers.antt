-- The columns make a table, whose versions have the coordinates of the cells.
use Rattle.std.proofs.Common.{◌≡◌, ℕ, List, [], ◌∷◌, map, length, replicate, ap, ◌∙◌, rules, sym, subst}
use Rattle.ts_base.specs.declared.heads.Version.{Version}
use Rattle.ts_base.specs.declared.values.Val.{Val}
use Rattle.ts_table.specs.declared.origins.Origin.{Origin}
use Rattle.ts_table.specs.Tables.{no_origin, versions_from, IsTable}
use Rattle.ts_select.proofs.SiteTables.{sites_coords, sites_table}
use Rattle.ts_select.proofs.sites.sites_of.Goals as goal

pub of-requires : goal.of-requires
of-requires c =
    let columns = c.in_ok-columns.columns.items in
    let places = c.args.places.now in
    let origins : c.in_ok-origins.origins.items ≡ no_origin ∷ [] = search rules in
    let named : c.in_ok-named.named.items ≡ replicate (length places) 0 = search rules in
    let none : c.new.result.items ≡ [] = search rules in
    subst (λ (os : List Origin). IsTable os columns c.new.result.items c.in_ok-named.named.items) (sym origins)
    (subst (λ (vs : List (List Val)). IsTable (no_origin ∷ []) columns vs c.in_ok-named.named.items) (sym none)
    (subst (λ (ns : List ℕ). IsTable (no_origin ∷ []) columns [] ns) (sym named) (sites_table c.args.cells.now places c.args.dims columns c.in_ok-columns.ensures no_origin c.requires.some c.requires.few)))

pub returns : goal.returns
returns c =
    let columns = c.in_ok-columns.columns.items in
    let places = c.args.places.now in
    let origins : c.in_ok-origins.origins.items ≡ no_origin ∷ [] = search rules in
    let named : c.in_ok-named.named.items ≡ replicate (length places) 0 = search rules in
    let none : c.new.result.items ≡ [] = search rules in
    ap (map (λ (v : Version). v.coords)) (c.of.ensures ∙ (λ i. versions_from (origins i) columns (none i) 0 (named i)))
    ∙ sites_coords c.args.cells.now places c.args.dims columns c.in_ok-columns.ensures no_origin c.requires.long c.requires.within
