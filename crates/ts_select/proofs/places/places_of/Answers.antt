-- The cells that pass as they stand, those that are sorted, and those that are placed, are those that are selected.
use Rattle.std.proofs.Common.{◌≡◌, ℕ, ◌<◌, ◌≤◌, List, Option, length, map, sym, ap, ◌∙◌, subst, arith}
use Rattle.std.specs.Prelude.{All, IfSome, filter}
use Rattle.std.specs.List.{range_with_len}
use Rattle.std.proofs.lemmas.List.Sorted.{All-permutation}
use Rattle.std.proofs.lemmas.Result.{IfOk-weaker}
use Rattle.ts_model.specs.declared.places.GlobalPlace.{GlobalPlace}
use Rattle.ts_model.specs.Selections.{picks_in}
use Rattle.ts_select.specs.Cells.{cell_at}
use Rattle.ts_select.specs.Places.{passes_at, placed_behind}
use Rattle.ts_select.specs.Sites.{AreInLayout}
use Rattle.ts_select.proofs.Alike.{cells_sorted}
use Rattle.ts_select.proofs.Ascending.{cells_passing}
use Rattle.ts_select.proofs.Placed.{cells_placed, places_within}
use Rattle.ts_select.proofs.Ranges.{passing_few, passing_within}
use Rattle.ts_select.proofs.places.places_of.Goals as goal

pub returns-then-stands : goal.returns-then-stands
returns-then-stands c =
    let ready = c.args.ready.now in
    let versions = c.args.cells.now in
    let range = range_with_len 0 (length versions) in
    let sorted = c.requires.stands c.if-stands.true in record {
      within = subst (All (λ place. place < length versions)) (sym c.in_ok-passing.ensures) (passing_within _ (length versions));
      cells =
          ap (map (cell_at versions)) (c.in_ok-passing.ensures ∙ ap (λ picks. filter (passes_at picks ready.filter versions) range) c.in_ok-picks.ensures)
          ∙ cells_passing c.args.frame.now c.args.schema.now.attrs ready versions sorted;
    }

pub sorted_places-requires-clause-few : goal.sorted_places-requires-clause-few
sorted_places-requires-clause-few c =
    let versions = c.args.cells.now in
    let fewer : length c.as_slice.result.now ≤ length versions = subst (λ (ps : List ℕ). length ps ≤ length versions) (sym (c.as_slice.ensures ∙ c.in_ok-passing.ensures)) (passing_few _ (length versions)) in
    omega (arith, fewer, c.requires.few)

pub sorted_places-requires-clause-within : goal.sorted_places-requires-clause-within
sorted_places-requires-clause-within c =
    let versions = c.args.cells.now in
    subst (All (λ place. place < length versions)) (sym (c.as_slice.ensures ∙ c.in_ok-passing.ensures)) (passing_within _ (length versions))

pub returns-in-Some : goal.returns-in-Some
returns-in-Some c =
    let frame = c.args.frame.now in
    let attrs = c.args.schema.now.attrs in
    let ready = c.args.ready.now in
    let versions = c.args.cells.now in
    let range = range_with_len 0 (length versions) in
    let passing : c.as_slice.result.now ≡ filter (passes_at (picks_in attrs ready.filter) ready.filter versions) range =
    c.as_slice.ensures ∙ c.in_ok-passing.ensures ∙ ap (λ picks. filter (passes_at picks ready.filter versions) range) c.in_ok-picks.ensures in
    let are = subst (λ (found : Option (List ℕ)). IfSome found (AreInLayout frame ready.layout versions c.as_slice.result.now)) c.in-Some.is c.in_ok-places.ensures in
    let sorted = subst (λ (ps : List ℕ). AreInLayout frame ready.layout versions ps c.in-Some.places) passing are in record {
      within = All-permutation (λ place. place < length versions) _ c.in-Some.places sorted.each (passing_within (passes_at (picks_in attrs ready.filter) ready.filter versions) (length versions));
      cells = cells_sorted frame attrs ready versions c.in-Some.places sorted;
    }

pub returns : goal.returns
returns c =
    let frame = c.args.frame.now in
    let attrs = c.args.schema.now.attrs in
    let ready = c.args.ready.now in
    let versions = c.args.cells.now in
    let range = range_with_len 0 (length versions) in
    let put_in = c.in_ok-placed.ensures ∙ ap (λ picks. placed_behind frame ready picks versions range) c.in_ok-picks.ensures in record {
      within =
          IfOk-weaker c.in_order.result _ (All (λ place. place < length versions)) (λ places is.
          subst (All (λ place. place < length versions)) (sym (is ∙ ap (map (λ (e : GlobalPlace × ℕ). e.1)) put_in)) (places_within frame attrs ready versions)) c.in_order.ensures;
      cells =
          IfOk-weaker c.in_order.result _ _ (λ places is.
          ap (map (cell_at versions)) (is ∙ ap (map (λ (e : GlobalPlace × ℕ). e.1)) put_in) ∙ cells_placed frame attrs ready versions) c.in_order.ensures;
    }
