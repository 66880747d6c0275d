-- The steps of the loop that makes the hulls of so many boxes each.
use Rattle.std.proofs.Common.{◌≡◌, ℕ, suc, ◌+◌, ◌-◌, ◌<◌, ◌≤◌, List, [], ◌∷◌, ◌++◌, length, get_or, drop, refl, sym, ap, ◌∙◌, subst, arith, append_assoc}
use Rattle.std.specs.List.{All}
use Rattle.std.proofs.lemmas.List.{drop_more}
use Rattle.ts_domain.specs.declared.boxes.SubBox.{SubBox}
use Rattle.ts_domain.specs.Boxes.{hull_of}
use Rattle.ts_domain.specs.Rects.{IsLike}
use Rattle.ts_rtree.specs.Trees.{hulls_from, hulls_of}
use Rattle.ts_rtree.proofs.Likes.{like_hull, like_other}

-- the hulls so far, the one that is being made and those of the other boxes make all of them
abbrev pub Making : ℕ → List SubBox → List SubBox → ℕ → SubBox → ℕ → Type 0
Making n boxes done left hull place = (done ++ hulls_from (n - 1) left hull (drop place boxes) ≡ hulls_of n boxes) × (left ≤ n - 1) × IsLike hull hull × All (IsLike hull) boxes

its_rest : (boxes : List SubBox) (place : ℕ) (x : SubBox) → place < length boxes → x ≡ get_or boxes place x → drop place boxes ≡ x ∷ drop (place + 1) boxes
its_rest boxes place x within is = drop_more boxes place x within ∙ ap (λ y. y ∷ drop (place + 1) boxes) (sym is)

making_next : (n : ℕ) (boxes done : List SubBox) (left place : ℕ) (hull x : SubBox) → Making n boxes done left hull place → left ≡ 0 → place < length boxes → x ≡ get_or boxes place x
    → Making n boxes (done ++ hull ∷ []) (n - 1) x (place + 1)
making_next n boxes done left place hull x (whole, few, this, all) none within is =
    let like : IsLike hull x = subst (IsLike hull) (sym is) (all place x within) in
    let opened : done ++ hulls_from (n - 1) 0 hull (x ∷ drop (place + 1) boxes) ≡ hulls_of n boxes = ap (λ text. done ++ hulls_from (n - 1) 0 hull text) (sym (its_rest boxes place x within is)) ∙ ap (λ k. done ++ hulls_from (n - 1) k hull (drop place boxes)) (sym none) ∙ whole in
    (append_assoc done (hull ∷ []) (hulls_from (n - 1) (n - 1) x (drop (place + 1) boxes)) ∙ opened, omega arith, record { valid = like.valid; dims = refl }, like_other hull x boxes like all)

making_more : (n : ℕ) (boxes done : List SubBox) (left place : ℕ) (hull x : SubBox) → Making n boxes done (suc left) hull place → place < length boxes → x ≡ get_or boxes place x
    → Making n boxes done left (hull_of hull x) (place + 1)
making_more n boxes done left place hull x (whole, few, this, all) within is =
    let like : IsLike hull x = subst (IsLike hull) (sym is) (all place x within) in
    let both : IsLike hull (hull_of hull x) = like_hull hull hull x this like in
    let opened : done ++ hulls_from (n - 1) (suc left) hull (x ∷ drop (place + 1) boxes) ≡ hulls_of n boxes = ap (λ text. done ++ hulls_from (n - 1) (suc left) hull text) (sym (its_rest boxes place x within is)) ∙ whole in
    (opened, omega arith, record { valid = both.valid; dims = refl }, like_other hull (hull_of hull x) boxes both all)

making_at : (n : ℕ) (boxes done other : List SubBox) (left fewer place : ℕ) (hull wider : SubBox) → other ≡ done → fewer ≡ left → wider ≡ hull → Making n boxes done left hull place → Making n boxes other fewer wider place
making_at n boxes done other left fewer place hull wider e f g making =
    subst (λ (v : List SubBox). Making n boxes v fewer wider place) (sym e) (subst (λ (k : ℕ). Making n boxes done k wider place) (sym f) (subst (λ (b : SubBox). Making n boxes done left b place) (sym g) making))

pub making_next_at : (n : ℕ) (boxes done pushed other : List SubBox) (left fewer place : ℕ) (hull x wider : SubBox) → Making n boxes done left hull place → left ≡ 0 → place < length boxes → x ≡ get_or boxes place x
    → pushed ≡ done ++ hull ∷ [] → other ≡ pushed → fewer ≡ n - 1 → wider ≡ x → Making n boxes other fewer wider (place + 1)
making_next_at n boxes done pushed other left fewer place hull x wider making none within is push e f g =
    making_at n boxes (done ++ hull ∷ []) other (n - 1) fewer (place + 1) x wider (e ∙ push) f g (making_next n boxes done left place hull x making none within is)

pub making_more_at : (n : ℕ) (boxes done other : List SubBox) (left fewer place : ℕ) (hull x both wider : SubBox) → Making n boxes done left hull place → (left ≡ 0 → ⊥) → place < length boxes → x ≡ get_or boxes place x
    → both ≡ hull_of hull x → other ≡ done → fewer ≡ left - 1 → wider ≡ both → Making n boxes other fewer wider (place + 1)
making_more_at n boxes done other left fewer place hull x both wider making some within is hulled e f g =
    let step : left ≡ suc (left - 1) = omega arith in
    making_at n boxes done other (left - 1) fewer (place + 1) (hull_of hull x) wider e f (g ∙ hulled)
    (making_more n boxes done (left - 1) place hull x (subst (λ (k : ℕ). Making n boxes done k hull place) step making) within is)
