-- The cells that a read shows lie in its box.
use Rattle.std.proofs.Common.{◌≡◌, ℕ, ℤ, Bool, true, false, cond, List, [], ◌∷◌, Some, map, refl, ap, ◌∙◌, suc}
use Rattle.std.specs.Prelude.{IsTrue, slice_get}
use Rattle.std.specs.List.{AllByRecursion}
use Rattle.std.specs.FinMap as finite
use Rattle.std.proofs.lemmas.List.Elements.{recursion_from_All}
use Rattle.ts_base.specs.declared.heads.Version.{Version}
use Rattle.ts_base.specs.declared.values.Val.{Val}
use Rattle.ts_schema.specs.declared.schemas.Schema.{Schema}
use Rattle.ts_domain.specs.declared.orders.Order.TheVariants.{Row}
use Rattle.ts_domain.specs.Boxes.{IsBox, coords_of_box, is_in_box}
use Rattle.ts_order.proofs.OrderedCoords.{is_in_box-slice_get}
use Rattle.ts_actor.specs.PieceLaws.{AreInBox}
use Rattle.ts_model.specs.declared.states.Reading.{Reading}
use Rattle.ts_model.specs.Pieces.{newest_of}
use Rattle.ts_model.specs.States.{cells_filled, cells_left, cells_shown}
use Rattle.ts_reader.proofs.Erased.{cells_so}
use Rattle.ts_reader.proofs.Newer.{newest_so}
use Rattle.ts_reader.proofs.BoxSlots.{in_row_order}

module _ (r : Reading) (schemas : List Schema) (got : List Version) where
  -- the coordinates lie in the box
  abbrev Lies : List ℤ → Type 0
  Lies c = IsTrue (is_in_box (r.ready).sub c)

  -- so do those of each of these cells
  abbrev pub AllLie : List (List ℤ × List Val) → Type 0
  AllLie es = AllByRecursion (λ (e : List ℤ × List Val). Lies e.0) es

  left_lie : AreInBox (r.ready).sub got → AllLie (cells_left r schemas got)
  left_lie in_box =
      let P : Version → Type 0 = λ v. Lies v.coords in
      cells_so Lies r schemas (finite.values (newest_of got)) (newest_so P got (recursion_from_All P got in_box))

  each_lies : (f : List ℤ → List Val) (cs : List (List ℤ)) → ((place : ℕ) (c : List ℤ) → slice_get cs place ≡ Some c → Lies c) → AllLie (map (λ c. (c, f c)) cs)
  each_lies f [] each = tt
  each_lies f (c ∷ cs) each = (each 0 c refl, each_lies f cs (λ place d at. each (suc place) d at))

  filled_lie : IsBox (r.ready).sub → AllLie (cells_filled r schemas got)
  filled_lie box = each_lies _ (coords_of_box (r.ready).sub) (λ place c at. is_in_box-slice_get Row (r.ready).sub box place c (ap (λ cs. slice_get cs place) (in_row_order (r.ready).sub) ∙ at))

  by_kind : (dense : Bool) → IsBox (r.ready).sub → AreInBox (r.ready).sub got → AllLie (cond dense (cells_filled r schemas got) (cells_left r schemas got))
  by_kind true box in_box = filled_lie box
  by_kind false box in_box = left_lie in_box

  -- the cells that the read shows lie in its box
  pub shown_lie : IsBox (r.ready).sub → AreInBox (r.ready).sub got → AllLie (cells_shown r schemas got)
  shown_lie box in_box = by_kind (r.frame).dense box in_box
