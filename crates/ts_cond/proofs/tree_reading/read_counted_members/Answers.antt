-- One value more is read.
use Rattle.std.proofs.Common.{◌≡◌, ◌+◌, ◌-◌, ◌<◌, ◌≤◌, List, [], ◌∷◌, length, slice_get, sym, subst, arith, length-append}
use Rattle.ts_base.specs.declared.values.Val.{Val}
use Rattle.ts_wire.specs.Place.{items_at}
use Rattle.ts_wire.proofs.Loop.{with_front, items_on}
use Rattle.ts_cond.specs.CondTexts.{member_at}
use Rattle.ts_cond.proofs.tree_reading.read_counted_members.Goals as goal

pub loop-place-preserved : goal.loop-place-preserved
loop-place-preserved c =
    let read = member_at (slice_get c.args.fields.now c.args.field) c.args.nodes in
    let more : c.loop-place.place < c.args.count = omega (arith, c.loop-place-test.true) in
    let P : List Val → Type 0 = λ vals.
    (with_front vals (items_at read (c.args.count - (c.loop-place.place + 1)) vals c.read_member.new.cursor) ≡ items_at read c.args.count [] c.args.cursor.now)
    × (c.args.nodes + length vals ≤ 1024) in
    subst P (sym c.in_ok-push.ensures.ok) (
      items_on read c.args.count c.loop-place.place c.loop-place.vals c.loop-place.cursor c.read_member.new.cursor c.in_ok-val.val _ more c.in_ok-val.ensures.reads c.loop-place.invariant.0,
      omega (arith, c.in_ok-val.ensures.few, length-append c.loop-place.vals (c.in_ok-val.val ∷ [])),
    )
