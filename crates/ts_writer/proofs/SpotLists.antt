-- Lists that are made of others, item after item and part after part.
use Rattle.std.proofs.Common.{◌≡◌, ℕ, ◌+◌, ◌<◌, ◌≤◌, List, [], ◌∷◌, ◌++◌, length, get_or, take, map, Some, refl, sym, ap, ◌∙◌, subst, append_assoc}
use Rattle.std.specs.Prelude.{slice_get}
use Rattle.std.specs.List.{flat_map}
use Rattle.std.proofs.lemmas.List.{append-nil, map-append, take_all, take_more}
use Rattle.std.proofs.lemmas.Grind.{flat_map-append}
use Rattle.ts_model.proofs.ListLemmas.{take_next}

-- one item more of those that are made of a list
pub mapped_more : {A B : Type 0} (f : A → B) (before made more : List B) (xs : List A) (place : ℕ) (x : A) → slice_get xs place ≡ Some x → made ≡ before ++ map f (take place xs) → more ≡ made ++ f x ∷ []
    → more ≡ before ++ map f (take (place + 1) xs)
mapped_more f before made more xs place x at was is =
    is ∙ ap (λ ys. ys ++ f x ∷ []) was ∙ append_assoc before (map f (take place xs)) (f x ∷ [])
    ∙ ap (λ ys. before ++ ys) (sym (ap (map f) (take_next xs place x at) ∙ map-append f (take place xs) (x ∷ [])))

-- all of them
pub mapped_all : {A B : Type 0} (f : A → B) (before made : List B) (xs : List A) (place : ℕ) → length xs ≤ place → made ≡ before ++ map f (take place xs) → made ≡ before ++ map f xs
mapped_all f before made xs place over was = was ∙ ap (λ ys. before ++ map f ys) (take_all place xs over)

-- what is made of parts is made of the whole
pub mapped_parts : {A B C : Type 0} (f : B → C) (g : A → List B) (ts : List A) → flat_map (λ t. map f (g t)) ts ≡ map f (flat_map g ts)
mapped_parts f g [] = refl
mapped_parts f g (t ∷ ts) = ap (λ xs. map f (g t) ++ xs) (mapped_parts f g ts) ∙ sym (map-append f (g t) (flat_map g ts))

-- one part more of those that a list is made of
pub parts_more : {A B : Type 0} (g : A → List B) (made more : List B) (ts all : List A) (place : ℕ) (t : A) → ts ≡ all → place < length ts → t ≡ get_or ts place t → made ≡ flat_map g (take place all) → more ≡ made ++ g t
    → more ≡ flat_map g (take (place + 1) all)
parts_more g made more ts all place t same within at was is =
    let next : take (place + 1) all ≡ take place all ++ t ∷ [] =
    ap (take (place + 1)) (sym same) ∙ take_more ts place t within ∙ (λ i. take place (same i) ++ sym at i ∷ []) in
    is ∙ ap (λ ys. ys ++ g t) was ∙ ap (λ ys. flat_map g (take place all) ++ ys) (sym (append-nil (g t))) ∙ sym (ap (flat_map g) next ∙ flat_map-append g (take place all) (t ∷ []))

-- all parts
pub parts_all : {A B : Type 0} (g : A → List B) (made : List B) (ts all : List A) (place : ℕ) → ts ≡ all → length ts ≤ place → made ≡ flat_map g (take place all) → made ≡ flat_map g all
parts_all g made ts all place same over was = was ∙ ap (flat_map g) (take_all place all (subst (λ xs. length xs ≤ place) same over))
