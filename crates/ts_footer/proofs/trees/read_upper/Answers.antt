use Rattle.std.proofs.Common.{ap, ◌∙◌, length, arith}
use Rattle.ts_footer.proofs.TreeReads.{tree_text, upper_long, upper_fields, fields_found, fields_stop}
use Rattle.ts_footer.proofs.trees.read_upper.Goals as goal

pub overflow_mul-upper : goal.overflow_mul-upper
overflow_mul-upper c =
    let facts = (tree_text c.args.hull.now _ c.args.count _ _ c.requires.hull c.requires.like c.requires.count c.requires.some (c.as_slice-text.ensures ∙ c.in_ok-bytes.ensures) (c.as_slice-last.ensures ∙ c.in_ok-top.ensures)) in omega (arith, facts.start, c.len-size.ensures, c.len-size.type_inv, ap length c.as_slice-text.ensures)

pub slice_bounds-upper-count : goal.slice_bounds-upper-count
slice_bounds-upper-count c =
    let facts = (tree_text c.args.hull.now _ c.args.count _ _ c.requires.hull c.requires.like c.requires.count c.requires.some (c.as_slice-text.ensures ∙ c.in_ok-bytes.ensures) (c.as_slice-last.ensures ∙ c.in_ok-top.ensures)) in facts.start

pub slice_bounds-upper-start : goal.slice_bounds-upper-start
slice_bounds-upper-start c =
    let facts = (tree_text c.args.hull.now _ c.args.count _ _ c.requires.hull c.requires.like c.requires.count c.requires.some (c.as_slice-text.ensures ∙ c.in_ok-bytes.ensures) (c.as_slice-last.ensures ∙ c.in_ok-top.ensures)) in facts.start

pub slice_bounds-append-count : goal.slice_bounds-append-count
slice_bounds-append-count c =
    upper_long c.args.hull.now c.args.tree.now.leaves c.args.count _ _ (tree_text c.args.hull.now _ c.args.count _ _ c.requires.hull c.requires.like c.requires.count c.requires.some (c.as_slice-text.ensures ∙ c.in_ok-bytes.ensures) (c.as_slice-last.ensures ∙ c.in_ok-top.ensures))

pub read_same-requires-clause-first : goal.read_same-requires-clause-first
read_same-requires-clause-first c =
    (upper_fields c.args.hull.now c.args.tree.now.leaves c.args.count c.as_slice-text.result.now c.as_slice-last.result.now _ _ _ c.requires.hull (tree_text c.args.hull.now _ c.args.count _ _ c.requires.hull c.requires.like c.requires.count c.requires.some (c.as_slice-text.ensures ∙ c.in_ok-bytes.ensures) (c.as_slice-last.ensures ∙ c.in_ok-top.ensures)) (c.as_slice-last.ensures ∙ c.in_ok-top.ensures) c.new-topped.ensures c.in_ok-append.ensures.ok (c.as_slice.ensures ∙ c.in_ok-append-2.ensures.ok)).one

pub read_same-requires-clause-second : goal.read_same-requires-clause-second
read_same-requires-clause-second c =
    (upper_fields c.args.hull.now c.args.tree.now.leaves c.args.count c.as_slice-text.result.now c.as_slice-last.result.now _ _ _ c.requires.hull (tree_text c.args.hull.now _ c.args.count _ _ c.requires.hull c.requires.like c.requires.count c.requires.some (c.as_slice-text.ensures ∙ c.in_ok-bytes.ensures) (c.as_slice-last.ensures ∙ c.in_ok-top.ensures)) (c.as_slice-last.ensures ∙ c.in_ok-top.ensures) c.new-topped.ensures c.in_ok-append.ensures.ok (c.as_slice.ensures ∙ c.in_ok-append-2.ensures.ok)).two

pub returns-in-Ok : goal.returns-in-Ok
returns-in-Ok c =
    fields_found c.args.hull.now _ _ _ _ _ _ (upper_fields c.args.hull.now c.args.tree.now.leaves c.args.count c.as_slice-text.result.now c.as_slice-last.result.now _ _ _ c.requires.hull (tree_text c.args.hull.now _ c.args.count _ _ c.requires.hull c.requires.like c.requires.count c.requires.some (c.as_slice-text.ensures ∙ c.in_ok-bytes.ensures) (c.as_slice-last.ensures ∙ c.in_ok-top.ensures)) (c.as_slice-last.ensures ∙ c.in_ok-top.ensures) c.new-topped.ensures c.in_ok-append.ensures.ok (c.as_slice.ensures ∙ c.in_ok-append-2.ensures.ok)) c.in-Ok.ensures

pub returns : goal.returns
returns c =
    fields_stop c.args.hull.now _ _ _ _ _ _ (upper_fields c.args.hull.now c.args.tree.now.leaves c.args.count c.as_slice-text.result.now c.as_slice-last.result.now _ _ _ c.requires.hull (tree_text c.args.hull.now _ c.args.count _ _ c.requires.hull c.requires.like c.requires.count c.requires.some (c.as_slice-text.ensures ∙ c.in_ok-bytes.ensures) (c.as_slice-last.ensures ∙ c.in_ok-top.ensures)) (c.as_slice-last.ensures ∙ c.in_ok-top.ensures) c.new-topped.ensures c.in_ok-append.ensures.ok (c.as_slice.ensures ∙ c.in_ok-append-2.ensures.ok)) c.in-Err.ensures
