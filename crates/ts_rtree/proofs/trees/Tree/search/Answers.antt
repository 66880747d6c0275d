use Rattle.std.proofs.Common.{arith, List, take, ap, sym, subst}
use Rattle.std.specs.List.{All}
use Rattle.ts_domain.specs.declared.boxes.SubBox.{SubBox}
use Rattle.ts_domain.specs.Rects.{IsLike}
use Rattle.ts_rtree.proofs.Likes.{nodes_of-like}
use Rattle.ts_rtree.proofs.trees.Tree.search.Goals as goal

pub found_in-requires-clause-like : goal.found_in-requires-clause-like
found_in-requires-clause-like c =
    let inside = c.self.inside in
    let leaves : All (IsLike c.args.sub.now) (take inside.leaves inside.table.boxes) = subst (λ (t : List SubBox). All (IsLike c.args.sub.now) t) (sym (ap (λ t. t.leaves) c.self.view_is)) c.requires.like in
    subst (λ (t : List SubBox). All (IsLike c.args.sub.now) t) (sym c.self.invariant.levels) (nodes_of-like c.args.sub.now (take inside.leaves inside.table.boxes) leaves)

pub found_in-requires-clause-within : goal.found_in-requires-clause-within
found_in-requires-clause-within c = omega (arith, c.self.invariant.within)
