-- Versions that ascend as they stand, or once they were moved, are in order; others are put in order by the tree.
use Rattle.std.proofs.Common.{sym, ap, ◌∙◌, subst, List}
use Rattle.std.specs.Prelude.{IsTrue, All}
use Rattle.std.specs.Map.{values_of}
use Rattle.std.specs.List.Sorted.{IsPermutation, IsStrictlySortedBy}
use Rattle.std.proofs.lemmas.List.Sorted.{All-permutation, IsPermutation-map}
use Rattle.ts_base.specs.declared.heads.Version.{Version}
use Rattle.ts_domain.specs.Domains.{is_in_domain}
use Rattle.ts_piece.specs.declared.spots.Spot.{Spot}
use Rattle.ts_piece.specs.Spots.{version_in, spotted, IsSpot}
use Rattle.ts_consolidate.specs.Placing.{by_version}
use Rattle.ts_consolidate.proofs.InOrder.{in_order_same, moved_in_order}
use Rattle.ts_consolidate.proofs.Placed.{placed_in_order, placed_there}
use Rattle.ts_consolidate.proofs.placing.in_version_order.Goals as goal

pub returns-then-ascend-clause-order : goal.returns-then-ascend-clause-order
returns-then-ascend-clause-order c =
    let versions = spotted c.args.batches.now c.args.spots.items in
    sym (in_order_same c.args.frame.now versions (subst (λ (ss : List Spot). IsStrictlySortedBy (by_version c.args.frame.now) (spotted c.args.batches.now ss)) c.as_slice.ensures.value (c.ascend.ensures c.if-ascend.true)))

pub ascend-requires-2-clause-there : goal.ascend-requires-2-clause-there
ascend-requires-2-clause-there c =
    let moved = subst (λ (ss : List Spot). IsPermutation ss c.in_ok-ranked.ranked.items) c.as_slice-2.ensures.value c.in_ok-ranked.ensures in
    subst (All (IsSpot c.args.batches.now)) (sym c.as_slice-3.ensures.value) (All-permutation (IsSpot c.args.batches.now) c.args.spots.items c.in_ok-ranked.ranked.items moved c.requires.there)

pub ascend-requires-2-clause-inside : goal.ascend-requires-2-clause-inside
ascend-requires-2-clause-inside c =
    let batches = c.args.batches.now in
    let inside = λ (version : Version). IsTrue (is_in_domain c.args.frame.now.domain version.coords) in
    let moved = subst (λ (ss : List Spot). IsPermutation ss c.in_ok-ranked.ranked.items) c.as_slice-2.ensures.value c.in_ok-ranked.ensures in
    subst (λ (ss : List Spot). All inside (spotted batches ss)) (sym c.as_slice-3.ensures.value)
    (All-permutation inside (spotted batches c.args.spots.items) (spotted batches c.in_ok-ranked.ranked.items) (IsPermutation-map (version_in batches) c.args.spots.items c.in_ok-ranked.ranked.items moved) c.requires.inside)

pub returns-then-ascend-2-clause-there : goal.returns-then-ascend-2-clause-there
returns-then-ascend-2-clause-there c =
    let moved = subst (λ (ss : List Spot). IsPermutation ss c.in_ok-ranked.ranked.items) c.as_slice-2.ensures.value c.in_ok-ranked.ensures in
    All-permutation (IsSpot c.args.batches.now) c.args.spots.items c.in_ok-ranked.ranked.items moved c.requires.there

pub returns-then-ascend-2-clause-order : goal.returns-then-ascend-2-clause-order
returns-then-ascend-2-clause-order c =
    let batches = c.args.batches.now in
    let moved = subst (λ (ss : List Spot). IsPermutation ss c.in_ok-ranked.ranked.items) c.as_slice-2.ensures.value c.in_ok-ranked.ensures in
    sym (moved_in_order c.args.frame.now (spotted batches c.args.spots.items) (spotted batches c.in_ok-ranked.ranked.items) (IsPermutation-map (version_in batches) c.args.spots.items c.in_ok-ranked.ranked.items moved)
    (subst (λ (ss : List Spot). IsStrictlySortedBy (by_version c.args.frame.now) (spotted batches ss)) c.as_slice-3.ensures.value (c.ascend-2.ensures c.if-ascend-2.true)))

pub returns-clause-there : goal.returns-clause-there
returns-clause-there c =
    subst (All (IsSpot c.args.batches.now)) (sym (c.in_ok-by_place.ensures ∙ ap values_of c.in_ok-placed.ensures)) (placed_there c.args.frame.now c.args.batches.now c.args.spots.items c.requires.there)

pub returns-clause-order : goal.returns-clause-order
returns-clause-order c =
    ap (spotted c.args.batches.now) (c.in_ok-by_place.ensures ∙ ap values_of c.in_ok-placed.ensures) ∙ placed_in_order c.args.frame.now c.args.batches.now c.args.spots.items
