-- Each cell that came once is put in the set, and one that came twice is found.
use Rattle.std.proofs.Common.{◌≡◌, ◌+◌, ◌<◌, suc, cond, Some, [], ◌∷◌, ◌++◌, length, get_or, sym, ap, ◌∙◌, take, drop, true, false, rules, arith}
use Rattle.std.specs.Prelude.{is_some}
use Rattle.std.specs.Ordering.{int_cmp}
use Rattle.std.specs.Cmp.Lexicographic.{slice_cmp}
use Rattle.std.specs.BTreeSet.{contains}
use borrow.Author.Count.{below_more}
use Rattle.ts_table.specs.Tables.{version_or}
use Rattle.ts_model.specs.declared.answers.Refusal.TheVariants as refusal
use Rattle.ts_model.specs.Commands.{again_in}
use Rattle.ts_model.specs.Deeds.{row_at}
use Rattle.ts_writer.specs.Tables.{cell_in, cells_in}
use Rattle.ts_writer.proofs.Again.{seen_more, again_next, take_next}
use Rattle.ts_writer.proofs.Globals.{twins_not_new}
use Rattle.ts_writer.proofs.LaidTables.{cell_there, cells_next, length-cells_in}
use Rattle.ts_writer.proofs.places.again.Goals as goal

pub loop-place-preserved : goal.loop-place-preserved
loop-place-preserved c =
    let vs = c.args.table.now in
    let cells = cells_in vs in
    let place = c.loop-place.place in
    let cell = cell_in (version_or vs place) in
    let below : place < length vs = omega arith in
    let lt : place < length cells = omega (arith, below, length-cells_in vs) in
    let is : cell ≡ get_or cells place cell = sym (cell_there vs place cell below) in
    let at : c.coords.result ≡ cell.coords = c.coords.ensures in
    let new : contains (slice_cmp int_cmp) c.loop-place.seen c.coords.result ≡ false = search rules in
    let fresh : is_some (row_at cell.coords (take place cells)) ≡ false = sym (c.loop-place.invariant.seen cell.coords) ∙ ap (contains (slice_cmp int_cmp) c.loop-place.seen) (sym at) ∙ new in
    record {
      left = again_next cells place cell _ lt is fresh c.loop-place.invariant.left;
      seen = λ q. seen_more c.loop-place.seen c.insert.new.self (take place cells) cell (rw at at c.in_ok-insert.ensures.updates) c.loop-place.invariant.seen q ∙ ap (λ before. is_some (row_at q before)) (sym (take_next cells place cell lt is));
      new = below_more (λ j. is_some (row_at (version_or vs j).coords (take j cells)) ≡ false) place c.loop-place.invariant.new fresh;
    }

pub returns-then-not-branch : goal.returns-then-not-branch
returns-then-not-branch c =
    let vs = c.args.table.now in
    let cells = cells_in vs in
    let place = c.loop-place.place in
    let cell = cell_in (version_or vs place) in
    let below : place < length vs = omega arith in
    let old : contains (slice_cmp int_cmp) c.loop-place.seen c.coords.result ≡ true = search rules in
    let found : is_some (row_at cell.coords (take place cells)) ≡ true = sym (c.loop-place.invariant.seen cell.coords) ∙ ap (contains (slice_cmp int_cmp) c.loop-place.seen) (sym c.coords.ensures) ∙ old in
    sym c.loop-place.invariant.left ∙ ap (again_in (take place cells) place) (cells_next vs place below)
    ∙ ap (λ b. cond b (Some (refusal.DuplicateCell place)) (again_in (take place cells ++ cell ∷ []) (suc place) (drop (place + 1) cells))) found

pub unreachable-requires : goal.unreachable-requires
unreachable-requires c = twins_not_new c.args.table.now c.requires (λ j lt. c.loop-place.invariant.new j (omega arith))
