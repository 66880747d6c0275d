use Rattle.std.proofs.Common.{rules, ◌≡◌, true, not, ◌&&◌, ◌<◌, length, take, get_or, sym, subst, ◌∙◌}
use Rattle.std.specs.Ordering.{nat_cmp}
use Rattle.std.specs.Cmp.Lexicographic.{slice_cmp}
use Rattle.std.specs.BTreeSet.{contains}
use Rattle.ts_schema.specs.Attrs.{has_attr, has_label}
use Rattle.ts_schema.proofs.NameSets.{names_less, less_next}
use Rattle.ts_schema.proofs.evolution.less_fault.Goals as goal

pub loop-name-preserved : goal.loop-name-preserved
loop-name-preserved c =
    let attrs = c.args.attrs.now in
    let names = c.args.less.now in
    let place = c.loop-name.name-index in
    let name = c.name-item.result in
    let same = c.as_slice-name-items.ensures in
    let lt : place < length names = subst (λ xs. place < length xs) same c.loop-name-test.true in
    let is : name ≡ get_or names place name = subst (λ xs. name ≡ get_or xs place name) same c.name-item.is in
    let there : contains (slice_cmp nat_cmp) c.loop-name.left name ≡ true = search rules in
    let may : (has_attr attrs name && not (has_label (take place names) name)) ≡ true = sym (c.loop-name.invariant.1 name) ∙ there in (
      less_next attrs names place name _ lt is may c.loop-name.invariant.0,
      names_less (has_attr attrs) c.loop-name.left c.remove.new.self names place name lt is c.remove.ensures.updates c.loop-name.invariant.1,
    )
