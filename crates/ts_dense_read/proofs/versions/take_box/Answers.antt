-- What is taken of slots of one write are the versions of the cells of a box.
use Rattle.std.proofs.Common.{rules, ◌≡◌, ◌++◌, map, replicate, ◌∙◌}
use Rattle.ts_order.specs.Orders.{coords_in_order}
use Rattle.ts_gather.specs.Parts.{version_over}
use Rattle.ts_dense_read.specs.SpaceTakes.{slots_of, slots_in, taken_of}
use Rattle.ts_dense_read.proofs.BoxTakes.{taken_none, taken_apart, taken_on, on_ok}
use Rattle.ts_dense_read.proofs.versions.take_box.Goals as goal

pub returns-then-not-is_origin_wanted : goal.returns-then-not-is_origin_wanted
returns-then-not-is_origin_wanted c =
    let a = c.args in
    taken_none a.opened.now a.leaf.now a.count a.origin a.vals c.requires.counted c.requires.vals a.found.now (search rules)

pub returns-in_default : goal.returns-in_default
returns-in_default c =
    let a = c.args in
    taken_apart a.opened.now a.leaf.now a.count a.origin a.vals c.requires.counted c.requires.vals a.found.now (search rules) (c.in_default.ensures.none a.opened.now.frame.cell)

pub returns : goal.returns
returns c =
    let a = c.args in
    let part = c.in-Some.part in
    let order = a.opened.now.frame.cell in
    let attrs : c.as_slice-attrs.result.now ≡ c.args.opened.now.want.attrs = search rules in
    let vals : c.into_vec.result.items ≡ c.args.vals = search rules in
    let made = c.of_box.ensures ∙ c.in_ok-table.ensures ∙ (λ i. map (version_over (c.write_of-write.ensures i) (attrs i) order a.leaf.now (vals i)) (coords_in_order order part)) in
    on_ok c.push.result (c.push.new.self ≡ a.found.now ++ c.of_box.result) (c.push.new.self ≡ a.found.now ++ taken_of a.opened.now (slots_in a.opened.now a.leaf.now (slots_of a.count (replicate a.count a.origin) a.vals)))
    (λ push. taken_on a.opened.now a.leaf.now a.count a.origin a.vals c.requires.counted c.requires.vals part a.found.now c.push.new.self c.of_box.result (search rules) c.in-Some.ensures.some made push) c.push.ensures.ok
