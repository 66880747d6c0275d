-- Each coordinate of the box gets its row.
use Rattle.std.proofs.Common.{◌≡◌, ◌≤◌, ◌+◌, ℕ, ℤ, true, false, List, Option, Some, None, sym, ap, subst, ◌∙◌, arith}
use Rattle.std.specs.Prelude.{slice_get}
use Rattle.std.specs.Option.{is_some}
use Rattle.std.specs.FinMap as finite
use Rattle.std.specs.BTreeMap.{BTreeMap}
use Rattle.ts_base.specs.declared.values.Val.{Val}
use Rattle.ts_domain.specs.declared.orders.Order.TheVariants.{Row}
use Rattle.ts_domain.specs.Boxes.{is_in_box, cells_of}
use Rattle.ts_order.specs.Orders.{coords_in_order}
use Rattle.ts_store.proofs.Trees.{get-tree, insert-tree}
use Rattle.ts_model.specs.declared.scan.Scan.{Scan}
use Rattle.ts_model.specs.Answers.{Cells, shown_at, unwritten, fills_of}
use Rattle.ts_model.specs.Scans.{cells_in, left_by, shown_by}
use Rattle.ts_model.proofs.Newest.{coords_total, coords_exact}
use Rattle.ts_model.proofs.Filled.{left_is_shown, fill_is_shown, IsFilled, filled_start, filled_kept, filled_more, filled_all}
use Rattle.ts_model.proofs.scan.fill.Goals as goal
use Rattle.ts_model.proofs.scan.fill.Goals.{then-not-contains_key+in_ok-fills_of+in_ok-insert+in-Some-1, then-not-contains_key+in_ok-fills_of+in_ok-insert+in-None-1, else-not-contains_key}

module _ (s : Scan) where
  -- what is shown of a scan at a coordinate
  abbrev what : List ℤ → Option (List Val)
  what c = shown_at s.deeds.now s.current.now s.from s.to c

  -- what is left is shown
  over : (c : List ℤ) (row : List Val) → left_by s c ≡ Some row → shown_by s c ≡ Some row
  over c row is = left_is_shown (is_in_box s.ready.now.sub c) (what c) (unwritten s.frame.now s.current.now.attrs) row is

  -- and else the fill, in a dense array
  filled_in : s.frame.now.dense ≡ true → (c : List ℤ) → is_in_box s.ready.now.sub c ≡ true → left_by s c ≡ None → shown_by s c ≡ Some (fills_of s.current.now.attrs)
  filled_in dense c inside none =
      fill_is_shown (is_in_box s.ready.now.sub c) (what c) (unwritten s.frame.now s.current.now.attrs) (fills_of s.current.now.attrs) inside (ap (λ b. unwritten (record s.frame.now { dense = b }) s.current.now.attrs) dense) none

  -- where nothing is the fill is put
  fill_put : s.frame.now.dense ≡ true → (place : ℕ) (at : List ℤ) (row : List Val) (m n : Cells) → slice_get (coords_in_order Row s.ready.now.sub) place ≡ Some at → is_in_box s.ready.now.sub at ≡ true
      → is_some (finite.get m at) ≡ false → row ≡ fills_of s.current.now.attrs → n ≡ finite.insert m at row → IsFilled (left_by s) (shown_by s) (coords_in_order Row s.ready.now.sub) place m
      → IsFilled (left_by s) (shown_by s) (coords_in_order Row s.ready.now.sub) (place + 1) n
  fill_put dense place at row m n is inside none fills more filled =
      subst (IsFilled (left_by s) (shown_by s) (coords_in_order Row s.ready.now.sub) (place + 1)) (sym more)
      (filled_more (left_by s) (shown_by s) (coords_in_order Row s.ready.now.sub) over m place at row is none (λ nothing. filled_in dense at inside nothing ∙ ap Some (sym fills)) filled)

  -- nothing is shown outside the box
  outside : (c : List ℤ) → is_in_box s.ready.now.sub c ≡ false → left_by s c ≡ shown_by s c
  outside c is = simp is

pub loop-place-init : goal.loop-place-init
loop-place-init c = λ are.
    let s = c.args.scan.now in
    filled_start (left_by s) (shown_by s) (coords_in_order Row s.ready.now.sub) (over s) (cells_in c.args.cells.now) are

pub loop-place-preserved : goal.loop-place-preserved
loop-place-preserved c = λ are.
    let s = c.args.scan.now in
    let at = c.coords_at-at.result in
    let place = c.loop-place.place in
    let so_far = c.loop-place.cells in
    let cs = coords_in_order Row s.ready.now.sub in
    let filled = c.loop-place.invariant are in
    let found : is_some (finite.get (cells_in so_far) at) ≡ c.contains_key.result = ap is_some (get-tree coords_total so_far at) ∙ sym c.contains_key.ensures in
    let put = fill_put s c.requires.dense place at in
    elim c.if-not-contains_key.branch [
      | then-not-contains_key+in_ok-fills_of+in_ok-insert+in-Some-1 w ↦
          put w.in_ok-fills_of.field-0 (cells_in so_far) (cells_in c.if-not-contains_key.cells) c.coords_at-at.ensures.place c.coords_at-at.ensures.inside (found ∙ w.if-not-contains_key.true) w.in_ok-fills_of.ensures
          (ap cells_in w.cells-is ∙ insert-tree coords_total coords_exact so_far w.insert.new.self at w.in_ok-fills_of.field-0 w.in_ok-insert.ensures.updates) filled
      | then-not-contains_key+in_ok-fills_of+in_ok-insert+in-None-1 w ↦
          put w.in_ok-fills_of.field-0 (cells_in so_far) (cells_in c.if-not-contains_key.cells) c.coords_at-at.ensures.place c.coords_at-at.ensures.inside (found ∙ w.if-not-contains_key.true) w.in_ok-fills_of.ensures
          (ap cells_in w.cells-is ∙ insert-tree coords_total coords_exact so_far w.insert.new.self at w.in_ok-fills_of.field-0 w.in_ok-insert.ensures.updates) filled
      | else-not-contains_key w ↦
          subst (λ (m : BTreeMap (List ℤ) (List Val)). IsFilled (left_by s) (shown_by s) cs (place + 1) (cells_in m)) (sym w.cells-is)
          (filled_kept (left_by s) (shown_by s) cs (over s) (cells_in so_far) place at c.coords_at-at.ensures.place (found ∙ w.if-not-contains_key.false) filled)
    ]

pub returns : goal.returns
returns c = λ are.
    let s = c.args.scan.now in
    let past : cells_of s.ready.now.sub ≤ c.loop-place.place = omega arith in
    filled_all (left_by s) (shown_by s) s.ready.now.sub (cells_in c.loop-place.cells) c.loop-place.place past (outside s) (c.loop-place.invariant are)
