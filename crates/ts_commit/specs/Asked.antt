-- What a selection asks of the heads and the `.vac` objects.
use Rattle.std.specs.Prelude.{◌≡◌, ℕ, Bool, not, cond, List, filter, IsTrue, map as list_map}
use Rattle.std.specs.List.{list_all}
use Rattle.ts_base.specs.declared.keys.FragKey.{FragKey}
use Rattle.ts_base.specs.declared.heads.Head.{Head}
use Rattle.ts_commit.specs.declared.vacs.VacOf.{VacOf}
use Rattle.ts_commit.specs.Selections.{meets, is_among}

-- the heads are those of the committed fragments whose span meets [a, b], in their order
abbrev pub AreHeadsOf : List FragKey → ℕ → ℕ → List Head → Type 0
AreHeadsOf committed a b heads = list_map (λ head. head.frag) heads ≡ filter (meets a b) committed

-- the heads are of dense fragments, or they are of sparse ones
abbrev pub AreOfKind : Bool → List Head → Type 0
AreOfKind dense heads = IsTrue (list_all (λ head. cond dense head.dense (not head.dense)) heads)

-- the `.vac` objects count: their own fragments are committed
abbrev pub DoCount : List FragKey → List VacOf → Type 0
DoCount committed vacs = IsTrue (list_all (λ v. is_among v.frag committed) vacs)
