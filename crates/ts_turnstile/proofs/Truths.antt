-- Truth values, and lists of lanes.
use Rattle.std.proofs.Common.{◌≡◌, ◌≢◌, ◌⊎◌, inl, inr, ⊎_elim, ℕ, ◌==◌, ◌||◌, Bool, true, false, true≢false, List, [], ◌∷◌, ◌++◌, refl, sym, ap, ◌∙◌, eq-eqb, ne_eqb}
use mathlib.Core.Logic.{dite}
use native.Mathlib.Decide.{ℕ_discrete}
use Rattle.ts_turnstile.specs.Lanes.{has}

pub off : false ≡ true → ⊥
off e = true≢false (sym e)

pub false_of : (b : Bool) → (b ≡ true → ⊥) → b ≡ false
false_of true never = absurd (never refl)
false_of false never = refl

pub both_of : (b : Bool) → b ≡ true → b ≡ false → ⊥
both_of b is not_so = off (sym not_so ∙ is)

pub or_split : (a b : Bool) → (a || b) ≡ true → (a ≡ true) ⊎ (b ≡ true)
or_split true b e = inl refl
or_split false b e = inr e

pub or_left : (a b : Bool) → a ≡ true → (a || b) ≡ true
or_left true b e = refl
or_left false b e = absurd (off e)

pub or_right : (a b : Bool) → b ≡ true → (a || b) ≡ true
or_right true b e = refl
or_right false b e = e

pub or_none : (a b : Bool) → (a || b) ≡ false → (a ≡ false) × (b ≡ false)
or_none true b e = absurd (true≢false e)
or_none false b e = (refl, e)

or_assoc : (a b c : Bool) → (a || (b || c)) ≡ ((a || b) || c)
or_assoc true b c = refl
or_assoc false b c = refl

pub has_append : (lane : ℕ) (xs ys : List ℕ) → has lane (xs ++ ys) ≡ (has lane xs || has lane ys)
has_append lane [] ys = refl
has_append lane (x ∷ xs) ys = ap (λ b. (x == lane) || b) (has_append lane xs ys) ∙ or_assoc (x == lane) (has lane xs) (has lane ys)

pub has_here : (lane : ℕ) (lanes : List ℕ) → has lane (lane ∷ lanes) ≡ true
has_here lane lanes = or_left (lane == lane) (has lane lanes) (eq-eqb lane lane refl)

pub has_there : (lane one : ℕ) (lanes : List ℕ) → has lane lanes ≡ true → has lane (one ∷ lanes) ≡ true
has_there lane one lanes e = or_right (one == lane) (has lane lanes) e

-- the one lane of a list
pub has_one : (lane one : ℕ) → has lane (one ∷ []) ≡ true → one ≡ lane
has_one lane one e =
    dite (ℕ_discrete one lane)
    (λ (same : one ≡ lane). same)
    (λ (apart : one ≢ lane). absurd (both_of (has lane (one ∷ [])) e (ap (λ b. b || false) (ne_eqb one lane apart))))

-- one more lane in the middle
pub has_more : (lane one next : ℕ) (lanes : List ℕ) → has lane (one ∷ lanes) ≡ true → has lane (one ∷ next ∷ lanes) ≡ true
has_more lane one next lanes e =
    ⊎_elim
    (λ (x : (one == lane) ≡ true). or_left (one == lane) (has lane (next ∷ lanes)) x)
    (λ (x : has lane lanes ≡ true). or_right (one == lane) (has lane (next ∷ lanes)) (has_there lane next lanes x))
    (or_split (one == lane) (has lane lanes) e)

-- the lane in the middle, or one of the others
pub has_less : (lane one next : ℕ) (lanes : List ℕ) → has lane (one ∷ next ∷ lanes) ≡ true → (next ≡ lane) ⊎ (has lane (one ∷ lanes) ≡ true)
has_less lane one next lanes e =
    ⊎_elim
    (λ (x : (one == lane) ≡ true). inr (or_left (one == lane) (has lane lanes) x))
    (λ (x : has lane (next ∷ lanes) ≡ true).
    dite (ℕ_discrete next lane)
    (λ (same : next ≡ lane). inl same)
    (λ (apart : next ≢ lane). inr (or_right (one == lane) (has lane lanes) (sym (ap (λ b. b || has lane lanes) (ne_eqb next lane apart)) ∙ x))))
    (or_split (one == lane) (has lane (next ∷ lanes)) e)
