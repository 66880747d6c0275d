-- A set with a name more has that name, and each that it had.
use Rattle.std.proofs.Common.{◌≡◌, zero, suc, Bool, true, false, All, [], ◌∷◌, refl, ap, ◌∙◌, arith}
use Rattle.std.specs.Prelude.{cond}
use Rattle.std.specs.BTreeSet.{BTreeSet, contains}
use Rattle.std.specs.List.{Contains}
use Rattle.std.specs.Ordering.{eq_by_cmp}
use Rattle.std.proofs.lemmas.Map.Views.{btree_set_contains_iff}
use Rattle.ts_base.specs.declared.names.Name.{Name}
use Rattle.ts_base.specs.Exact.{name_total, name_exact, name_decides}
use Rattle.ts_base.specs.Names.{name_cmp}

module _ (old new : BTreeSet Name) (name : Name) (step : (n : Name) → contains name_cmp new n ≡ cond (eq_by_cmp name_cmp name n) true (contains name_cmp old n)) where
  pub is_added : Contains new.keys name
  is_added = (btree_set_contains_iff name_total name_exact new name).0 (step name ∙ ap (λ b. cond b true (contains name_cmp old name)) ((name_decides name name).1 refl))

  pub is_kept : (n : Name) → Contains old.keys n → Contains new.keys n
  is_kept n had =
      let was : contains name_cmp old n ≡ true = (btree_set_contains_iff name_total name_exact old n).1 had in
      (btree_set_contains_iff name_total name_exact new n).0 (step n ∙ ap (cond (eq_by_cmp name_cmp name n) true) was ∙ either (eq_by_cmp name_cmp name n))
    where
      either : (b : Bool) → cond b true true ≡ true
      either true = refl
      either false = refl

-- what holds of one item holds of each in the list of it alone
pub one_file : {X : Type 0} (P : X → Type 0) (x : X) → P x → All P (x ∷ [])
one_file P x is zero d less = is
one_file P x is (suc k) d less = absurd (omega arith)
