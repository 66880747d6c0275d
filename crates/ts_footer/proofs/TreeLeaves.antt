-- The leaves of a tree are read from its spelling.
use Rattle.std.proofs.Common.{◌≡◌, ℕ, List, length, Ok, Err, ap, subst, ◌∙◌}
use Rattle.std.specs.List.{All, flat_map}
use Rattle.std.proofs.lemmas.List.Concat.{flat_map-append}
use Rattle.ts_domain.specs.declared.boxes.SubBox.{SubBox}
use Rattle.ts_domain.specs.Rects.{rect_bytes}
use Rattle.ts_wire.specs.declared.faults.Damaged.{Damaged}
use Rattle.ts_wire.specs.declared.faults.ReadFault.{ReadFault}
use Rattle.ts_wire.specs.declared.faults.ReadFault.TheVariants as fault
use Rattle.ts_wire.specs.Place.{Place, place}
use Rattle.ts_wire.specs.Reading.{ReadsOr}
use Rattle.ts_wire.proofs.Laws.{same_ok, not_both}
use Rattle.ts_rtree.specs.Trees.{nodes_of, upper_of}
use Rattle.ts_footer.specs.TreeTexts.{leaves_at}
use Rattle.ts_footer.specs.Footers.{FitsRect}
use Rattle.ts_footer.proofs.TreeSpells.{leaves_exact}
use Rattle.ts_footer.proofs.Rects.{rects_turn}

-- the leaves stand first in the spelling of a tree
leaves_first : (hull : SubBox) (leaves : List SubBox) (tiles at : ℕ) → length leaves ≡ tiles → All (FitsRect hull) leaves
    → (q : Place) × (leaves_at (length hull.low) tiles (place (flat_map rect_bytes (nodes_of leaves)) at) ≡ Ok (leaves, q))
leaves_first hull leaves tiles at many fits =
    let split = flat_map-append rect_bytes leaves (upper_of leaves) in
    let again = (leaves_exact (length hull.low) tiles).again leaves (flat_map rect_bytes (upper_of leaves)) at (many, rects_turn hull _ leaves fits) in
    (_, ap (λ text. leaves_at (length hull.low) tiles (place text at)) split ∙ again)

module _ (hull : SubBox) (leaves : List SubBox) (tiles at : ℕ) (p : Place) (many : length leaves ≡ tiles) (fits : All (FitsRect hull) leaves) (is : p ≡ place (flat_map rect_bytes (nodes_of leaves)) at) where
  there : (q : Place) × (leaves_at (length hull.low) tiles p ≡ Ok (leaves, q))
  there = let first = leaves_first hull leaves tiles at many fits in (first.0, ap (leaves_at (length hull.low) tiles) is ∙ first.1)

  -- so what is read from there is the leaves
  pub leaves_told : (q : Place) (found : List SubBox) → leaves_at (length hull.low) tiles p ≡ Ok (found, q) → found ≡ leaves
  leaves_told q found read = ap (λ x. x.0) (same_ok (leaves_at (length hull.low) tiles p) (found, q) (leaves, there.0) read there.1)

  -- and nothing is broken there
  pub leaves_whole : (q : Place) (f : ReadFault) (damaged : Damaged) → f ≡ fault.Damaged damaged → ReadsOr (λ (found : List SubBox). found) (leaves_at (length hull.low) tiles) p q (Err f) → ⊥
  leaves_whole q f damaged was read =
      not_both (leaves_at (length hull.low) tiles p) (leaves, there.0) damaged.at there.1
      (subst (λ e. ReadsOr (λ (found : List SubBox). found) (leaves_at (length hull.low) tiles) p q (Err e)) was read)
