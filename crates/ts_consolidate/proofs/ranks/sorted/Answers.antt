-- The ranks are those of the spots, and were moved.
use Rattle.std.proofs.Common.{map, sym, ap, ◌∙◌, subst}
use Rattle.std.specs.List.Sorted.{IsPermutation}
use Rattle.std.proofs.lemmas.Result.{IfOk-weaker}
use Rattle.std.proofs.lemmas.List.Sorted.{IsPermutation-map}
use Rattle.ts_consolidate.specs.Placing.{spot_of}
use Rattle.ts_consolidate.proofs.ranks.sorted.Goals as goal

pub returns : goal.returns
returns c =
    let moved = IsPermutation-map spot_of c.in_ok-ranks.ranks.items c.sort_unstable.new.self.items c.sort_unstable.ensures.permutation in
    IfOk-weaker c.spots_of.result _ _ (λ spots is.
    subst (IsPermutation c.args.spots.now) (ap (map spot_of) (sym c.as_slice.ensures.value) ∙ sym is) (subst (λ ss. IsPermutation ss (map spot_of c.sort_unstable.new.self.items)) c.in_ok-ranks.ensures moved)) c.spots_of.ensures
