-- Heads that are put into a list one by one, and the `.vac` of one fragment.
use Rattle.std.proofs.Common.{◌≡◌, Bool, true, false, ◌&&◌, not, List, [], ◌∷◌, map, refl, sym, ap, ◌∙◌}
use Rattle.std.specs.Prelude.{cond}
use Rattle.std.specs.List.{list_all}
use Rattle.std.proofs.lemmas.List.{map-append}
use Rattle.std.proofs.lemmas.List.Folds.{list_all-append, list_all-map}
use Rattle.ts_base.specs.declared.keys.FragKey.{FragKey}
use Rattle.ts_commit.specs.declared.vacs.VacOf.{VacOf}
use Rattle.ts_commit.specs.Asked.{DoCount}
use Rattle.ts_commit.specs.Selections.{is_among}

-- a head is of its own kind
pub own_kind : (dense : Bool) → cond dense dense (not dense) ≡ true
own_kind true = refl
own_kind false = refl

-- the `.vac` of one committed fragment counts
pub one_counts : (vacs : List VacOf) (f : FragKey) (committed : List FragKey) → map (λ v. v.frag) vacs ≡ f ∷ [] → is_among f committed ≡ true → DoCount committed vacs
one_counts vacs f committed are is =
    let each = λ (g : FragKey). is_among g committed in
    sym (list_all-map each (λ v. v.frag) vacs) ∙ ap (list_all each) are ∙ ap (λ b. b && true) is

-- a head more
pub ruleset heads_more = (map-append, list_all-append)
