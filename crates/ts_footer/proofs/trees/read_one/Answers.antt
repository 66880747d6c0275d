use Rattle.std.proofs.Common.{◌∷◌, ◌++◌, [], Ok, ap, sym, ◌∙◌}
use Rattle.ts_footer.specs.TreeTexts.{rooted}
use Rattle.ts_footer.proofs.TreeReads.{hull_fields, one_read, one_stops}
use Rattle.ts_footer.proofs.trees.read_one.Goals as goal

pub read_same-requires-clause-first : goal.read_same-requires-clause-first
read_same-requires-clause-first c = (hull_fields c.args.hull.now _ c.requires.hull (c.as_slice-text.ensures ∙ c.in_ok-bytes.ensures)).one

pub read_same-requires-clause-second : goal.read_same-requires-clause-second
read_same-requires-clause-second c = (hull_fields c.args.hull.now _ c.requires.hull (c.as_slice-text.ensures ∙ c.in_ok-bytes.ensures)).two

pub returns : goal.returns
returns c = one_stops c.args.hull.now _ _ _ (hull_fields c.args.hull.now _ c.requires.hull (c.as_slice-text.ensures ∙ c.in_ok-bytes.ensures)) c.in-Err.ensures

pub returns-in-Ok : goal.returns-in-Ok
returns-in-Ok c =
    let made = c.in_ok-tree.ensures ∙ ap rooted (c.in_ok-push.ensures.ok ∙ ap (λ xs. xs ++ c.args.hull.now ∷ []) c.new-leaves.ensures) in
    one_read c.args.hull.now _ _ _ _ (hull_fields c.args.hull.now _ c.requires.hull (c.as_slice-text.ensures ∙ c.in_ok-bytes.ensures)) c.in-Ok.ensures
    ∙ ap (λ tree. Ok (tree, c.read_same.new.cursor)) (sym made)
