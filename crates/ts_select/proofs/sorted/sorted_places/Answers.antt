-- The places are moved, and they climb.
use Rattle.std.proofs.Common.{ℕ, List, ◌<◌, length, map, get_or, sym, ap, ◌∙◌, subst}
use Rattle.std.specs.List.{All}
use Rattle.std.specs.List.Sorted.{IsPermutation}
use Rattle.std.proofs.lemmas.List.Sorted.{All-permutation}
use Rattle.ts_order.proofs.OrderLemmas.{length-is_in_domain}
use Rattle.ts_select.specs.Sites.{Climb}
use Rattle.ts_select.proofs.SiteTables.{indices_within, places_moved, sites_inside, sites_many}
use Rattle.ts_select.proofs.sorted.sorted_places.Goals as goal

pub sites_of-requires-clause-long : goal.sites_of-requires-clause-long
sites_of-requires-clause-long c = λ k d below. length-is_in_domain c.args.frame.now.domain (get_or c.args.cells.now k d).coords (c.requires.inside k d below) ∙ sym c.count.ensures.count

pub ordered_places-requires-clause-inside : goal.ordered_places-requires-clause-inside
ordered_places-requires-clause-inside c = sites_inside c.args.cells.now c.args.places.now c.args.frame.now.domain c.in_ok-sites.sites c.in_ok-sites.ensures c.requires.inside c.requires.within

pub gathered-requires : goal.gathered-requires
gathered-requires c =
    let places = c.args.places.now in
    let many = sites_many c.args.cells.now places c.in_ok-sites.sites c.in_ok-sites.ensures in
    subst (All (λ index. index < length places)) (sym c.as_slice.ensures) (indices_within c.args.cells.now places (length c.in_ok-sites.sites) c.in_ok-order.order many c.in_ok-order.ensures.each)

pub do_climb-requires-clause-within : goal.do_climb-requires-clause-within
do_climb-requires-clause-within c =
    let places = c.args.places.now in
    let versions = c.args.cells.now in
    let many = sites_many versions places c.in_ok-sites.sites c.in_ok-sites.ensures in
    let is = c.in_ok-sorted.ensures ∙ ap (map (λ (index : ℕ). get_or places index 0)) c.as_slice.ensures in
    let moved = subst (IsPermutation places) (sym is) (places_moved versions places (length c.in_ok-sites.sites) c.in_ok-order.order many c.in_ok-order.ensures.each) in
    subst (All (λ place. place < length versions)) (sym c.as_slice-2.ensures) (All-permutation (λ place. place < length versions) places c.in_ok-sorted.sorted moved c.requires.within)

pub returns-then-do_climb : goal.returns-then-do_climb
returns-then-do_climb c =
    let places = c.args.places.now in
    let versions = c.args.cells.now in
    let many = sites_many versions places c.in_ok-sites.sites c.in_ok-sites.ensures in
    let is = c.in_ok-sorted.ensures ∙ ap (map (λ (index : ℕ). get_or places index 0)) c.as_slice.ensures in record {
      each = subst (IsPermutation places) (sym is) (places_moved versions places (length c.in_ok-sites.sites) c.in_ok-order.order many c.in_ok-order.ensures.each);
      climb = subst (λ (ps : List ℕ). Climb c.args.frame.now c.args.layout versions ps (length ps)) c.as_slice-2.ensures (c.do_climb.ensures c.if-do_climb.true);
    }
