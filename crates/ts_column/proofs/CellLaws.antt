-- Marks beside stored values are read exactly.
use Rattle.std.proofs.Common.{◌≡◌, ℕ, Bool, true, false, nat_eq, if◌then◌else◌, pos, List, length, inl, inr, ◌⊎◌, refl, sym, ap}
use Rattle.std.specs.Ordering.{int_eq}
use Rattle.std.specs.List.{flat_map}
use Rattle.ts_base.specs.declared.values.Val.{Val}
use Rattle.ts_base.specs.declared.values.Val.TheVariants.{Null, Int, Bytes}
use Rattle.ts_wire.specs.Place.{each_at}
use Rattle.ts_wire.specs.Exact.{Exact, EachFits}
use Rattle.ts_wire.specs.Fields.{bool_bytes}
use Rattle.ts_wire.proofs.Laws.{mapped_exact, ruled_exact, each_exact}
use Rattle.ts_wire.proofs.FieldLaws.{bool_exact}
use Rattle.ts_column.specs.Tiles.{is_blank, is_there, cell_at}

-- the value is the stored one, or the null that is stored so
abbrev pub IsCell : Val → Val → Type 0
IsCell Null v = v ≡ Null
IsCell (Int z) v = (v ≡ Int z) ⊎ ((v ≡ Null) × (int_eq z (pos 0) ≡ true))
IsCell (Bytes bytes) v = (v ≡ Bytes bytes) ⊎ ((v ≡ Null) × (nat_eq (length bytes) 0 ≡ true))

abbrev pub mark_bytes : Val → List ℕ
mark_bytes v = bool_bytes (is_there v)

-- what is read by a mark
cell_there : (d : Val) (b : Bool) → (if b then is_there d else is_blank d) ≡ true → IsCell d (if b then d else Null) × (bool_bytes b ≡ mark_bytes (if b then d else Null))
cell_there Null true h = absurd (cc)
cell_there Null false h = (refl, refl)
cell_there (Int z) true h = (inl refl, refl)
cell_there (Int z) false h = (inr (refl, h), refl)
cell_there (Bytes bytes) true h = (inl refl, refl)
cell_there (Bytes bytes) false h = (inr (refl, h), refl)

-- the mark of what may be read
cell_back : (d v : Val) → IsCell d v → (b : Bool) × (Unit {0} × ((if b then is_there d else is_blank d) ≡ true)) × ((if b then d else Null) ≡ v) × (bool_bytes b ≡ mark_bytes v)
cell_back Null v is = (false, (tt, refl), sym is, ap mark_bytes (sym is))
cell_back (Int z) v is = elim is [
  | inl same ↦ (true, (tt, refl), sym same, ap mark_bytes (sym same))
  | inr none ↦ (false, (tt, none.1), sym none.0, ap mark_bytes (sym none.0))
]
cell_back (Bytes bytes) v is = elim is [
  | inl same ↦ (true, (tt, refl), sym same, ap mark_bytes (sym same))
  | inr none ↦ (false, (tt, none.1), sym none.0, ap mark_bytes (sym none.0))
]

pub cell_exact : (d : Val) → Exact (IsCell d) mark_bytes (cell_at d)
unfolding cell_at
cell_exact d = mapped_exact (ruled_exact (λ b. if b then is_there d else is_blank d) bool_exact) (record {
  there = λ b fits. cell_there d b fits.1;
  back = λ v is. cell_back d v is;
})

-- the marks of all cells
pub cells_exact : (stored : List Val) → Exact (EachFits IsCell stored) (flat_map mark_bytes) (each_at cell_at stored)
cells_exact stored = each_exact cell_exact stored
