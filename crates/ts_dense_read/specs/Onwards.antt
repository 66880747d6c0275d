-- Readers do not go back; ts_sparse_read has the same of its own, where it is private.
use Rattle.std.proofs.Common.{◌≡◌, ℕ, zero, suc, ◌+◌, ◌≤◌, Bool, true, false, nat_lt, nat_eq, if◌then◌else◌, List, [], ◌∷◌, ◌++◌, length, take, drop, Result, Ok, Err, refl, ap, ◌∙◌, subst, arith}
use Rattle.ts_wire.specs.Place.{Place, Read, place, ◌>>=◌, bytes_at, given, mapped, both, ruled, items_at, each_at}
use Rattle.byteorder.specs.Endian.{little_number}
use Rattle.ts_wire.specs.Numbers.{number_at}
use Rattle.ts_footer.specs.declared.columns.ColumnForm.{ColumnForm}
use Rattle.ts_footer.specs.declared.columns.ColumnForm.TheVariants.{Fixed, Var}
use Rattle.ts_footer.specs.Columns.{fixed_length, fixed_at, start_at, starts_at, size_at, sizes_at}

-- a reader does not go back: neither the place behind a value nor a broken field is before the place where it began
pub record Onward {A : Type 0} (read : Place → Read A) : Type 0 where
  pub on : (p : Place) (y : A × Place) → read p ≡ Ok y → p.at ≤ y.1.at
  pub stops : (p : Place) (at : ℕ) → read p ≡ Err at → p.at ≤ at

-- one answer holds one value
pub ok_same : {A : Type 0} (x y : A) → ◌≡◌ {A = Result A ℕ} (Ok x) (Ok y) → x ≡ y
ok_same x y e = cc

-- a value is no offset
pub not_ok : {A : Type 0} (x : A) (at : ℕ) → ◌≡◌ {A = Result A ℕ} (Ok x) (Err at) → ⊥
not_ok x at e = cc

-- nor is an offset a value
pub not_err : {A : Type 0} (at : ℕ) (x : A) → ◌≡◌ {A = Result A ℕ} (Err at) (Ok x) → ⊥
not_err at x e = cc

-- the next n bytes, unless there are fewer
abbrev bytes_if : ℕ → Place → Bool → Read (List ℕ)
bytes_if n p fewer = if fewer then Err p.at else Ok (take n p.rest, place (drop n p.rest) (p.at + n))

-- bytes
pub onward_bytes : (n : ℕ) → Onward (bytes_at n)
onward_bytes n = record { on = λ p y e. on p y (nat_lt (length p.rest) n) e; stops = λ p at e. stops p at (nat_lt (length p.rest) n) e }
  where
    on : (p : Place) (y : List ℕ × Place) (b : Bool) → bytes_if n p b ≡ Ok y → p.at ≤ y.1.at
    on p y true e = absurd (not_err p.at y e)
    on p y false e =
        let x : List ℕ × Place = (take n p.rest, place (drop n p.rest) (p.at + n)) in
        subst (λ (z : List ℕ × Place). p.at ≤ z.1.at) (ok_same x y e) (omega arith)

    stops : (p : Place) (at : ℕ) (b : Bool) → bytes_if n p b ≡ Err at → p.at ≤ at
    stops p at true e = let same : p.at ≡ at = cc in omega (arith, same)
    stops p at false e = let x : List ℕ × Place = (take n p.rest, place (drop n p.rest) (p.at + n)) in absurd (not_ok x at e)

-- what f makes of a value that was read
abbrev pub value_of : {A B : Type 0} → (A → B) → A × Place → Read B
value_of f x = Ok (f x.0, x.1)

-- a value that is made of one
pub onward_mapped : {A B : Type 0} (f : A → B) (read : Place → Read A) → Onward read → Onward (mapped f read)
onward_mapped {A} {B} f read onward = record { on = λ p y e. on p y (read p) refl e; stops = λ p at e. stops p at (read p) refl e }
  where
    on : (p : Place) (y : B × Place) (r : Read A) → read p ≡ r → (r >>= value_of f) ≡ Ok y → p.at ≤ y.1.at
    on p y (Ok x) was e = let z : B × Place = (f x.0, x.1) in subst (λ (w : B × Place). p.at ≤ w.1.at) (ok_same z y e) (onward.on p x was)
    on p y (Err there) was e = absurd (not_err there y e)

    stops : (p : Place) (at : ℕ) (r : Read A) → read p ≡ r → (r >>= value_of f) ≡ Err at → p.at ≤ at
    stops p at (Ok x) was e = let z : B × Place = (f x.0, x.1) in absurd (not_ok z at e)
    stops p at (Err there) was e = let same : there ≡ at = cc in onward.stops p at (was ∙ ap Err same)

-- two values that were read one after the other
abbrev pub pair_of : {A B : Type 0} → A × Place → B × Place → Read (A × B)
pair_of a b = Ok ((a.0, b.0), b.1)

-- one value and then the next
pub onward_both : {A B : Type 0} (read : Place → Read A) (next : A → Place → Read B) → Onward read → ((a : A) → Onward (next a)) → Onward (both read next)
onward_both {A} {B} read next first second = record { on = λ p y e. on p y (read p) refl e; stops = λ p at e. stops p at (read p) refl e }
  where
    on_next : (p : Place) (y : (A × B) × Place) (a : A × Place) (r : Read B) → p.at ≤ a.1.at → next a.0 a.1 ≡ r → (r >>= pair_of a) ≡ Ok y → p.at ≤ y.1.at
    on_next p y a (Ok b) upto was e =
        let z : (A × B) × Place = ((a.0, b.0), b.1) in
        let more = (second a.0).on a.1 b was in
        subst (λ (w : (A × B) × Place). p.at ≤ w.1.at) (ok_same z y e) (omega (arith, upto, more))
    on_next p y a (Err there) upto was e = absurd (not_err there y e)

    stops_next : (p : Place) (at : ℕ) (a : A × Place) (r : Read B) → p.at ≤ a.1.at → next a.0 a.1 ≡ r → (r >>= pair_of a) ≡ Err at → p.at ≤ at
    stops_next p at a (Ok b) upto was e = let z : (A × B) × Place = ((a.0, b.0), b.1) in absurd (not_ok z at e)
    stops_next p at a (Err there) upto was e = let same : there ≡ at = cc in let more = (second a.0).stops a.1 at (was ∙ ap Err same) in omega (arith, upto, more)

    on : (p : Place) (y : (A × B) × Place) (r : Read A) → read p ≡ r → (r >>= λ a. next a.0 a.1 >>= pair_of a) ≡ Ok y → p.at ≤ y.1.at
    on p y (Ok a) was e = on_next p y a (next a.0 a.1) (first.on p a was) refl e
    on p y (Err there) was e = absurd (not_err there y e)

    stops : (p : Place) (at : ℕ) (r : Read A) → read p ≡ r → (r >>= λ a. next a.0 a.1 >>= pair_of a) ≡ Err at → p.at ≤ at
    stops p at (Ok a) was e = stops_next p at a (next a.0 a.1) (first.on p a was) refl e
    stops p at (Err there) was e = let same : there ≡ at = cc in first.stops p at (was ∙ ap Err same)

-- a value, unless its rule fails
abbrev value_if : {A : Type 0} → Place → A × Place → Bool → Read A
value_if p x passes = if passes then Ok x else Err p.at

-- a value with a rule
pub onward_ruled : {A : Type 0} (rule : A → Bool) (read : Place → Read A) → Onward read → Onward (ruled rule read)
onward_ruled {A} rule read onward = record { on = λ p y e. on p y (read p) refl e; stops = λ p at e. stops p at (read p) refl e }
  where
    passed : (p : Place) (x y : A × Place) (b : Bool) → p.at ≤ x.1.at → value_if p x b ≡ Ok y → p.at ≤ y.1.at
    passed p x y true upto e = subst (λ (z : A × Place). p.at ≤ z.1.at) (ok_same x y e) upto
    passed p x y false upto e = absurd (not_err p.at y e)

    failed_there : (p : Place) (at : ℕ) (x : A × Place) (b : Bool) → value_if p x b ≡ Err at → p.at ≤ at
    failed_there p at x true e = absurd (not_ok x at e)
    failed_there p at x false e = let same : p.at ≡ at = cc in omega (arith, same)

    on : (p : Place) (y : A × Place) (r : Read A) → read p ≡ r → (r >>= λ x. value_if p x (rule x.0)) ≡ Ok y → p.at ≤ y.1.at
    on p y (Ok x) was e = passed p x y (rule x.0) (onward.on p x was) e
    on p y (Err there) was e = absurd (not_err there y e)

    stops : (p : Place) (at : ℕ) (r : Read A) → read p ≡ r → (r >>= λ x. value_if p x (rule x.0)) ≡ Err at → p.at ≤ at
    stops p at (Ok x) was e = failed_there p at x (rule x.0) e
    stops p at (Err there) was e = let same : there ≡ at = cc in onward.stops p at (was ∙ ap Err same)

-- a value that takes no bytes
pub onward_given : {A : Type 0} (x : A) → Onward (given x)
onward_given {A} x = record { on = on; stops = stops }
  where
    on : (p : Place) (y : A × Place) → given x p ≡ Ok y → p.at ≤ y.1.at
    on p y e = let z : A × Place = (x, p) in subst (λ (w : A × Place). p.at ≤ w.1.at) (ok_same z y e) (omega arith)

    stops : (p : Place) (at : ℕ) → given x p ≡ Err at → p.at ≤ at
    stops p at e = let z : A × Place = (x, p) in absurd (not_ok z at e)

-- values that are each read by those before it
pub onward_items : {A : Type 0} (read : List A → Place → Read A) → ((front : List A) → Onward (read front)) → (n : ℕ) (front : List A) → Onward (items_at read n front)
unfolding items_at
onward_items {A} read each zero front = onward_given []
onward_items {A} read each (suc n) front =
    onward_mapped (λ (x : A × List A). x.0 ∷ x.1) (both (read front) (λ a. items_at read n (front ++ a ∷ []))) (onward_both (read front) (λ a. items_at read n (front ++ a ∷ [])) (each front) (λ a. onward_items read each n (front ++ a ∷ [])))

-- values for the items of a list
pub onward_each : {D A : Type 0} (read : D → Place → Read A) → ((d : D) → Onward (read d)) → (ds : List D) → Onward (each_at read ds)
unfolding each_at
onward_each {D} {A} read each [] = onward_given []
onward_each {D} {A} read each (d ∷ ds) = onward_mapped (λ (x : A × List A). x.0 ∷ x.1) (both (read d) (λ _. each_at read ds)) (onward_both (read d) (λ _. each_at read ds) (each d) (λ _. onward_each read each ds))

-- ---- what stands behind the head

-- a number
pub onward_number : (n : ℕ) → Onward (number_at n)
unfolding number_at
onward_number n = onward_mapped (little_number n) (bytes_at n) (onward_bytes n)

-- where a tile starts
onward_start : (end : ℕ) (front : List ℕ) → Onward (start_at end front)
unfolding start_at
onward_start end front = onward_ruled _ (number_at 8) (onward_number 8)

-- where tiles start
onward_starts : (tiles end : ℕ) → Onward (starts_at tiles end)
unfolding starts_at
onward_starts tiles end = onward_items (start_at end) (onward_start end) tiles []

-- what is said of an object
onward_size : (cells tiles : ℕ) (form : ColumnForm) → Onward (size_at cells tiles form)
unfolding size_at fixed_at
onward_size cells tiles (Fixed width) = onward_mapped _ (fixed_at width cells) (onward_ruled (λ n. nat_eq n (fixed_length width cells)) (number_at 8) (onward_number 8))
onward_size cells tiles Var = onward_mapped _ (both (number_at 8) (starts_at tiles)) (onward_both (number_at 8) (starts_at tiles) (onward_number 8) (onward_starts tiles))

-- what is said of objects
pub onward_sizes : (cells tiles : ℕ) (forms : List ColumnForm) → Onward (sizes_at cells tiles forms)
unfolding sizes_at
onward_sizes cells tiles forms = onward_each (size_at cells tiles) (onward_size cells tiles) forms
