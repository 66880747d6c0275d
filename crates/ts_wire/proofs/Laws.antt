-- The laws of the readers: each way to put readers together keeps that a spelling is read exactly.
use Rattle.std.proofs.Common.{◌≡◌, ℕ, zero, suc, ◌+◌, ◌≤◌, Bool, true, false, nat_lt, nat_eq, if◌then◌else◌, List, [], ◌∷◌, ◌++◌, length, take, drop, Option, Some, None, Result, Ok, Err, ◌⊎◌, inl, inr, refl, sym, ap, ◌∙◌, subst, arith, append_assoc, length-append}
use Rattle.std.proofs.lemmas.Bool.{ltb-false, le-ltb, eqb-true}
use Rattle.std.proofs.lemmas.List.{append-nil, length-take-le, take-append-drop, take_at, drop_at, get_or-drop, nil_from_length}
use Rattle.std.specs.List.{flat_map}
use Rattle.ts_wire.specs.Place.{Place, Read, place, ◌>>=◌, bytes_at, given, mapped, both, start_of, field, ruled, judged_from, judged, items_at, counted_at, numbered_at, each_at, whole}
use Rattle.ts_wire.specs.Exact.{IsBytes, Takes, Exact, Restates, InTurn, EachFits, each_bytes}

-- ---- answers

-- one answer holds one value
pub same_ok : {A : Type 0} (r : Result A ℕ) (x y : A) → r ≡ Ok x → r ≡ Ok y → x ≡ y
same_ok r x y h k = cc

pub same_err : {A : Type 0} (r : Result A ℕ) (i j : ℕ) → r ≡ Err i → r ≡ Err j → i ≡ j
same_err r i j h k = cc

-- an answer is a value or an offset
pub not_both : {A : Type 0} (r : Result A ℕ) (x : A) (at : ℕ) → r ≡ Ok x → r ≡ Err at → ⊥
not_both r x at h k = cc

-- a step that gave a value came behind one that gave a value
pub record Bound {A B : Type 0} (r : Result A ℕ) (f : A → Result B ℕ) (y : B) : Type 0 where
  pub first : A
  pub was : r ≡ Ok first
  pub next : f first ≡ Ok y

pub bound : {A B : Type 0} (r : Result A ℕ) (f : A → Result B ℕ) (y : B) → r >>= f ≡ Ok y → Bound r f y
bound (Ok a) f y h = record { first = a; was = refl; next = h }
bound (Err at) f y h = absurd (not_both (Err at) y at h refl)

-- a step that failed did so at once, or behind one that gave a value
pub failed : {A B : Type 0} (r : Result A ℕ) (f : A → Result B ℕ) (at : ℕ) → r >>= f ≡ Err at
    → (r ≡ Err at) ⊎ ((a : A) × (r ≡ Ok a) × (f a ≡ Err at))
failed (Ok a) f at h = inr (a, refl, h)
failed (Err here) f at h = let same : here ≡ at = cc in inl (ap Err same)

-- a step behind a value
pub goes_on : {A B : Type 0} (r : Result A ℕ) (f : A → Result B ℕ) (a : A) (s : Result B ℕ) → r ≡ Ok a → f a ≡ s → r >>= f ≡ s
goes_on r f a s h k = ap (λ q. q >>= f) h ∙ k

-- a place goes by its parts
place_at : (rest : List ℕ) (i j : ℕ) → i ≡ j → place rest i ≡ place rest j
place_at rest i j e = ap (place rest) e

-- ---- bytes

-- what is left of bytes are bytes
pub IsBytes-drop : (n : ℕ) (bs : List ℕ) → IsBytes bs → IsBytes (drop n bs)
IsBytes-drop n bs all i = rw get_or-drop (all (n + i))

-- the first of some bytes are bytes
pub IsBytes-take : (n : ℕ) (bs : List ℕ) → IsBytes bs → IsBytes (take n bs)
IsBytes-take zero bs all i = omega arith
IsBytes-take (suc n) [] all i = omega arith
IsBytes-take (suc n) (b ∷ bs) all zero = all 0
IsBytes-take (suc n) (b ∷ bs) all (suc i) = IsBytes-take n bs (λ j. all (suc j)) i

-- two texts one behind the other
pub takes_both : (p q r : Place) (text more : List ℕ) → Takes p text q → Takes q more r → Takes p (text ++ more) r
takes_both p q r text more a b = record {
  parts = a.parts ∙ ap (λ rest. text ++ rest) b.parts ∙ sym (append_assoc text more r.rest);
  count = omega (arith, a.count, b.count, length-append text more);
  bytes = b.bytes;
}

-- nothing lies between a place and itself
pub takes_none : (p : Place) → IsBytes p.rest → Takes p [] p
takes_none p all = record { parts = refl; count = omega arith; bytes = all }

-- the bytes at a place are those that are there
abbrev pub AreBytes : ℕ → List ℕ → Type 0
AreBytes n bs = (length bs ≡ n) × IsBytes bs

-- the next n bytes, once it is known whether they are there
abbrev pub cut_at : Bool → ℕ → Place → Read (List ℕ)
cut_at short n p = if short then Err p.at else Ok (take n p.rest, place (drop n p.rest) (p.at + n))

bytes_take : (n : ℕ) (p : Place) (y : List ℕ × Place) (short : Bool) → nat_lt (length p.rest) n ≡ short → IsBytes p.rest
    → cut_at short n p ≡ Ok y → Takes p y.0 y.1 × AreBytes n y.0
bytes_take n p y true e all h = absurd (not_both (Err p.at) y p.at h refl)
bytes_take n p y false e all h =
    let room = ltb-false (length p.rest) n e in
    let count = length-take-le n p.rest room in
    let P : List ℕ × Place → Type 0 = λ x. Takes p x.0 x.1 × AreBytes n x.0 in
    subst P (same_ok (cut_at false n p) _ _ refl h)
    (record { parts = sym (take-append-drop n p.rest); count = omega (arith, count); bytes = IsBytes-drop n p.rest all }, (count, IsBytes-take n p.rest all))

bytes_within : (n : ℕ) (p : Place) (at : ℕ) (short : Bool) → cut_at short n p ≡ Err at → (p.at ≤ at) × (at ≤ p.at + length p.rest)
bytes_within n p at true h = let same : p.at ≡ at = cc in (omega arith, omega arith)
bytes_within n p at false h = absurd (not_both (cut_at false n p) _ at refl h)

bytes_again : (n : ℕ) (bs rest : List ℕ) (at : ℕ) (short : Bool) → nat_lt (length (bs ++ rest)) n ≡ short → length bs ≡ n
    → cut_at short n (place (bs ++ rest) at) ≡ Ok (bs, place rest (at + length bs))
bytes_again n bs rest at true e count = absurd (cc (le-ltb (length (bs ++ rest)) n (omega (arith, length-append bs rest))))
bytes_again n bs rest at false e count = rw (take_at bs rest n count, drop_at bs rest n count, count) refl

pub bytes_exact : (n : ℕ) → Exact (AreBytes n) (λ bs. bs) (bytes_at n)
bytes_exact n = record {
  takes = λ p y all h. bytes_take n p y (nat_lt (length p.rest) n) refl all h;
  again = λ bs rest at fits. bytes_again n bs rest at (nat_lt (length (bs ++ rest)) n) refl fits.0;
  within = λ p at all h. bytes_within n p at (nat_lt (length p.rest) n) h;
}

-- ---- values

module _ {A : Type 0} where
  -- other words for what fits and how it is spelled
  pub restated : {Fits Other : A → Type 0} {spell more : A → List ℕ} {read : Place → Read A} → Exact Fits spell read
      → ((x : A) → Fits x → Other x × (spell x ≡ more x)) → ((x : A) → Other x → Fits x) → Exact Other more read
  restated {Other = Other} {more = more} {read = read} base there back = record {
    takes = λ p y all h. let was = base.takes p y all h in let P : List ℕ → Type 0 = λ text. Takes p text y.1 in (subst P (there y.0 was.1).1 was.0, (there y.0 was.1).0);
    again = λ x rest at fits.
        let P : List ℕ → Type 0 = λ text. read (place (text ++ rest) at) ≡ Ok (x, place rest (at + length text)) in
        subst P (there x (back x fits)).1 (base.again x rest at (back x fits));
    within = base.within;
  }

  -- a value that takes no bytes
  pub given_exact : (x : A) → Exact (λ y. y ≡ x) (λ _. []) (given x)
  given_exact x = record {
    takes = λ p y all h. let P : A × Place → Type 0 = λ z. Takes p [] z.1 × (z.0 ≡ x) in subst P (same_ok (given x p) _ _ refl h) (takes_none p all, refl);
    again = λ y rest at fits. rw fits (ap (λ q. Ok (x, q)) (place_at rest at _ (omega arith)));
    within = λ p at all h. absurd (not_both (given x p) (x, p) at refl h);
  }

  -- a text of several parts is one field
  pub field_exact : {Fits : A → Type 0} {spell : A → List ℕ} {read : Place → Read A} → Exact Fits spell read → Exact Fits spell (field read)
  field_exact {read = read} base = record {
    takes = λ p y all h. base.takes p y all (start_ok p.at (read p) y h);
    again = λ x rest at fits. ap (start_of at) (base.again x rest at fits);
    within = λ p at all h. let same = start_err p.at (read p) at h in (omega arith, omega arith);
  }
    where
      start_ok : (at : ℕ) (r : Read A) (y : A × Place) → start_of at r ≡ Ok y → r ≡ Ok y
      start_ok at (Ok x) y h = h
      start_ok at (Err here) y h = absurd (not_both (start_of at (Err here)) y at h refl)

      start_err : (at : ℕ) (r : Read A) (here : ℕ) → start_of at r ≡ Err here → at ≡ here
      start_err at (Ok x) here h = absurd (not_both (start_of at (Ok x)) x here refl h)
      start_err at (Err there) here h = cc

  -- a value with a rule
  pub ruled_exact : {Fits : A → Type 0} {spell : A → List ℕ} {read : Place → Read A} → (rule : A → Bool) → Exact Fits spell read
      → Exact (λ x. Fits x × (rule x ≡ true)) spell (ruled rule read)
  ruled_exact {Fits = Fits} {spell = spell} {read = read} rule base = record {
    takes = λ p y all h.
        let b = bound (read p) (λ x. if rule x.0 then Ok x else Err p.at) y h in
        let kept = rule_ok p.at b.first y (rule b.first.0) b.next in
        let P : A × Place → Type 0 = λ z. Takes p (spell z.0) z.1 × (Fits z.0 × (rule z.0 ≡ true)) in
        let was = base.takes p b.first all b.was in
        subst P kept.0 (was.0, (was.1, kept.1));
    again = λ x rest at fits.
        goes_on (read (place (spell x ++ rest) at)) (λ y. if rule y.0 then Ok y else Err at) _ _ (base.again x rest at fits.0) (rw fits.1 refl);
    within = λ p at all h. elim (failed (read p) (λ x. if rule x.0 then Ok x else Err p.at) at h) [
      | inl here ↦ base.within p at all here
      | inr far ↦ let same = rule_err p.at far.0 at (rule far.0.0) far.2 in (omega arith, omega arith)
    ];
  }
    where
      rule_ok : (at : ℕ) (x y : A × Place) (b : Bool) → (if b then Ok x else Err at) ≡ Ok y → (x ≡ y) × (b ≡ true)
      rule_ok at x y true h = (same_ok (Ok x) x y refl h, refl)
      rule_ok at x y false h = absurd (not_both (Err at) y at h refl)

      rule_err : (at : ℕ) (x : A × Place) (here : ℕ) (b : Bool) → (if b then Ok x else Err at) ≡ Err here → at ≡ here
      rule_err at x here true h = absurd (not_both (Ok x) x here refl h)
      rule_err at x here false h = cc

  -- a value whose fault is placed within its spelling
  pub judged_exact : {Fits : A → Type 0} {spell : A → List ℕ} {read : Place → Read A} → (fault : A → Option ℕ)
      → ((x : A) (far : ℕ) → Fits x → fault x ≡ Some far → far ≤ length (spell x)) → Exact Fits spell read
      → Exact (λ x. Fits x × (fault x ≡ None)) spell (judged fault read)
  judged_exact {Fits = Fits} {spell = spell} {read = read} fault near base = record {
    takes = λ p y all h.
        let b = bound (read p) (λ x. judged_from p.at x (fault x.0)) y h in
        let kept = fault_ok p.at b.first y (fault b.first.0) b.next in
        let P : A × Place → Type 0 = λ z. Takes p (spell z.0) z.1 × (Fits z.0 × (fault z.0 ≡ None)) in
        let was = base.takes p b.first all b.was in
        subst P kept.0 (was.0, (was.1, kept.1));
    again = λ x rest at fits.
        goes_on (read (place (spell x ++ rest) at)) (λ y. judged_from at y (fault y.0)) _ _ (base.again x rest at fits.0) (rw fits.1 refl);
    within = λ p at all h. elim (failed (read p) (λ x. judged_from p.at x (fault x.0)) at h) [
      | inl here ↦ base.within p at all here
      | inr behind ↦
          let far = fault_err p.at behind.0 at (fault behind.0.0) behind.2 in
          let was = base.takes p behind.0 all behind.1 in
          let close = near behind.0.0 far.0 was.1 far.1 in
          let parts = ap length was.0.parts ∙ length-append (spell behind.0.0) behind.0.1.rest in
          (omega (arith, far.2), omega (arith, far.2, close, parts))
    ];
  }
    where
      fault_ok : (at : ℕ) (x y : A × Place) (f : Option ℕ) → judged_from at x f ≡ Ok y → (x ≡ y) × (f ≡ None)
      fault_ok at x y None h = (same_ok (Ok x) x y refl h, refl)
      fault_ok at x y (Some far) h = absurd (not_both (Err (at + far)) y (at + far) h refl)

      fault_err : (at : ℕ) (x : A × Place) (here : ℕ) (f : Option ℕ) → judged_from at x f ≡ Err here → (far : ℕ) × (f ≡ Some far) × (at + far ≡ here)
      fault_err at x here None h = absurd (not_both (Ok x) x here refl h)
      fault_err at x here (Some far) h = (far, refl, cc)

  -- a value and nothing behind it
  pub whole_found : {Fits : A → Type 0} {spell : A → List ℕ} {read : Place → Read A} → Exact Fits spell read
      → (p : Place) (x : A) → IsBytes p.rest → whole read p ≡ Ok x → (p.rest ≡ spell x) × Fits x
  whole_found {Fits = Fits} {spell = spell} {read = read} base p x all h =
      let b = bound (read p) (λ y. if nat_eq (length y.1.rest) 0 then Ok y.0 else Err y.1.at) x h in
      let kept = end_ok b.first x (nat_eq (length b.first.1.rest) 0) refl b.next in
      let was = base.takes p b.first all b.was in
      let parts : p.rest ≡ spell b.first.0 = was.0.parts ∙ ap (λ rest. spell b.first.0 ++ rest) kept.1 ∙ append-nil (spell b.first.0) in
      let P : A → Type 0 = λ y. (p.rest ≡ spell y) × Fits y in
      subst P kept.0 (parts, was.1)
    where
      end_ok : (y : A × Place) (x : A) (b : Bool) → nat_eq (length y.1.rest) 0 ≡ b → (if b then Ok y.0 else Err y.1.at) ≡ Ok x → (y.0 ≡ x) × (y.1.rest ≡ [])
      end_ok y x true e h = (same_ok (Ok y.0) y.0 x refl h, nil_from_length y.1.rest (eqb-true (length y.1.rest) 0 e))
      end_ok y x false e h = absurd (not_both (Err y.1.at) x y.1.at h refl)

  pub whole_only : {Fits : A → Type 0} {spell : A → List ℕ} {read : Place → Read A} → Exact Fits spell read
      → (x : A) (at : ℕ) → Fits x → whole read (place (spell x) at) ≡ Ok x
  whole_only {spell = spell} {read = read} base x at fits =
      let P : List ℕ → Type 0 = λ text. read (place text at) ≡ Ok (x, place [] (at + length (spell x))) in
      goes_on (read (place (spell x) at)) (λ y. if nat_eq (length y.1.rest) 0 then Ok y.0 else Err y.1.at) _ _ (subst P (append-nil (spell x)) (base.again x [] at fits)) refl

module _ {A B : Type 0} where
  -- the second step of two
  abbrev rest_of : (A → Place → Read B) → A × Place → Read (A × B)
  rest_of next a = next a.0 a.1 >>= λ z. Ok ((a.0, z.0), z.1)

  -- what f makes of a value
  pub mapped_exact : {FitsA : A → Type 0} {spellA : A → List ℕ} {FitsB : B → Type 0} {spellB : B → List ℕ} {f : A → B} {read : Place → Read A}
      → Exact FitsA spellA read → Restates FitsA spellA FitsB spellB f → Exact FitsB spellB (mapped f read)
  mapped_exact {spellA = spellA} {FitsB = FitsB} {spellB = spellB} {f = f} {read = read} base says = record {
    takes = λ p y all h.
        let b = bound (read p) (λ x. Ok (f x.0, x.1)) y h in
        let was = base.takes p b.first all b.was in
        let made = says.there b.first.0 was.1 in
        let P : B × Place → Type 0 = λ z. Takes p (spellB z.0) z.1 × FitsB z.0 in
        let Q : List ℕ → Type 0 = λ text. Takes p text b.first.1 in
        subst P (same_ok (Ok (f b.first.0, b.first.1)) _ _ refl b.next) (subst Q made.1 was.0, made.0);
    again = λ x rest at fits.
        let made = says.back x fits in
        let P : List ℕ → B → Type 0 = λ text y. mapped f read (place (text ++ rest) at) ≡ Ok (y, place rest (at + length text)) in
        subst (P (spellB x)) made.2 (subst (λ text. P text (f made.0)) made.3
        (goes_on (read (place (spellA made.0 ++ rest) at)) (λ y. Ok (f y.0, y.1)) _ _ (base.again made.0 rest at made.1) refl));
    within = λ p at all h. elim (failed (read p) (λ x. Ok (f x.0, x.1)) at h) [
      | inl here ↦ base.within p at all here
      | inr far ↦ absurd (not_both (Ok (f far.0.0, far.0.1)) _ at refl far.2)
    ];
  }

  -- a value and then another
  pub both_exact : {FitsA : A → Type 0} {spellA : A → List ℕ} {FitsB : A → B → Type 0} {spellB : A → B → List ℕ} {read : Place → Read A} {next : A → Place → Read B}
      → Exact FitsA spellA read → ((a : A) → FitsA a → Exact (FitsB a) (spellB a) (next a))
      → Exact (λ x. FitsA x.0 × FitsB x.0 x.1) (λ x. spellA x.0 ++ spellB x.0 x.1) (both read next)
  both_exact {FitsA = FitsA} {spellA = spellA} {FitsB = FitsB} {spellB = spellB} {read = read} {next = next} first second = record {
    takes = λ p y all h.
        let b = bound (read p) (rest_of next) y h in
        let was = first.takes p b.first all b.was in
        let c = bound (next b.first.0 b.first.1) (λ z. Ok ((b.first.0, z.0), z.1)) y b.next in
        let behind = (second b.first.0 was.1).takes b.first.1 c.first was.0.bytes c.was in
        let P : (A × B) × Place → Type 0 = λ z. Takes p (spellA z.0.0 ++ spellB z.0.0 z.0.1) z.1 × (FitsA z.0.0 × FitsB z.0.0 z.0.1) in
        subst P (same_ok (Ok ((b.first.0, c.first.0), c.first.1)) _ _ refl c.next)
        (takes_both p b.first.1 c.first.1 (spellA b.first.0) (spellB b.first.0 c.first.0) was.0 behind.0, (was.1, behind.1));
    again = λ x rest at fits.
        let text = spellA x.0 in
        let more = spellB x.0 x.1 in
        let one = first.again x.0 (more ++ rest) at fits.0 in
        let two = (second x.0 fits.0).again x.1 rest (at + length text) fits.1 in
        let P : List ℕ → ℕ → Type 0 = λ bytes here. both read next (place bytes at) ≡ Ok (x, place rest here) in
        subst (P ((text ++ more) ++ rest)) (omega (arith, length-append text more))
        (subst (λ bytes. P bytes (at + length text + length more)) (sym (append_assoc text more rest))
        (goes_on (read (place (text ++ (more ++ rest)) at)) (rest_of next) _ _ one (goes_on (next x.0 (place (more ++ rest) (at + length text))) (λ z. Ok ((x.0, z.0), z.1)) _ _ two refl)));
    within = λ p at all h. elim (failed (read p) (rest_of next) at h) [
      | inl here ↦ first.within p at all here
      | inr far ↦
          let was = first.takes p far.0 all far.1 in
          let parts = ap length was.0.parts ∙ length-append (spellA far.0.0) far.0.1.rest in
          elim (failed (next far.0.0 far.0.1) (λ z. Ok ((far.0.0, z.0), z.1)) at far.2) [
            | inl there ↦ let near = (second far.0.0 was.1).within far.0.1 at was.0.bytes there in (omega (arith, was.0.count, near.0), omega (arith, was.0.count, near.1, parts))
            | inr over ↦ absurd (not_both (Ok ((far.0.0, over.0.0), over.0.1)) _ at refl over.2)
          ]
    ];
  }

-- ---- lists

-- a list of values, each after those before it, in words that say how many there are
abbrev pub AreInTurn : {A : Type 0} → (List A → A → Type 0) → ℕ → List A → List A → Type 0
AreInTurn Fits n front xs = (length xs ≡ n) × InTurn Fits front xs

-- n values, each read by those before it
pub items_exact : {A : Type 0} {Fits : List A → A → Type 0} {spell : A → List ℕ} {read : List A → Place → Read A}
    → ((front : List A) → Exact (Fits front) spell (read front)) → (n : ℕ) (front : List A)
    → Exact (AreInTurn Fits n front) (flat_map spell) (items_at read n front)
unfolding items_at
items_exact {Fits = Fits} {spell = spell} item zero front = restated (given_exact []) (λ xs none. rw none ((refl, tt), refl)) (λ xs fits. nil_from_length xs fits.0)
items_exact {A = A} {Fits = Fits} {spell = spell} {read = read} item (suc n) front =
    mapped_exact (both_exact (item front) (λ a fits. items_exact item n (front ++ a ∷ []))) (record {
      there = λ x fits. ((omega (arith, fits.1.0), (fits.0, fits.1.1)), refl);
      back = back;
    })
  where
    back : (xs : List A) → AreInTurn Fits (suc n) front xs
        → (a : A × List A) × (Fits front a.0 × AreInTurn Fits n (front ++ a.0 ∷ []) a.1) × (a.0 ∷ a.1 ≡ xs) × (spell a.0 ++ flat_map spell a.1 ≡ flat_map spell xs)
    back [] fits = absurd (omega arith)
    back (x ∷ xs) fits = ((x, xs), (fits.1.0, (omega arith, fits.1.1)), refl, refl)

-- a count, and so many values, each read by the count and by those before it
pub numbered_exact : {A : Type 0} {FitsCount : ℕ → Type 0} {spell_count : ℕ → List ℕ} {Fits : ℕ → List A → A → Type 0} {spell : A → List ℕ}
    {count : Place → Read ℕ} {read : ℕ → List A → Place → Read A}
    → Exact FitsCount spell_count count → ((n : ℕ) → FitsCount n → (front : List A) → Exact (Fits n front) spell (read n front))
    → Exact (λ xs. FitsCount (length xs) × InTurn (Fits (length xs)) [] xs) (λ xs. spell_count (length xs) ++ flat_map spell xs) (numbered_at count read)
numbered_exact {A = A} {FitsCount = FitsCount} {spell_count = spell_count} {Fits = Fits} {spell = spell} counting item =
    mapped_exact (both_exact counting (λ n fits. items_exact (item n fits) n [])) (record {
      there = λ x fits.
          let P : ℕ → Type 0 = λ n. FitsCount n × InTurn (Fits n) [] x.1 in
          (subst P (sym fits.1.0) (fits.0, fits.1.1), ap (λ n. spell_count n ++ flat_map spell x.1) (sym fits.1.0));
      back = λ xs fits. ((length xs, xs), (fits.0, (refl, fits.1)), refl, refl);
    })

-- a count, and so many values, each read by those before it
pub counted_exact : {A : Type 0} {FitsCount : ℕ → Type 0} {spell_count : ℕ → List ℕ} {Fits : List A → A → Type 0} {spell : A → List ℕ}
    {count : Place → Read ℕ} {read : List A → Place → Read A}
    → Exact FitsCount spell_count count → ((front : List A) → Exact (Fits front) spell (read front))
    → Exact (λ xs. FitsCount (length xs) × InTurn Fits [] xs) (λ xs. spell_count (length xs) ++ flat_map spell xs) (counted_at count read)
counted_exact counting item = numbered_exact counting (λ n fits. item)

-- one value for each item of a known list, each spelled by its item
pub each_own_exact : {D A : Type 0} {Fits : D → A → Type 0} {spell : D → A → List ℕ} {read : D → Place → Read A}
    → ((d : D) → Exact (Fits d) (spell d) (read d)) → (ds : List D) → Exact (EachFits Fits ds) (each_bytes spell ds) (each_at read ds)
unfolding each_at
each_own_exact {A = A} {Fits = Fits} {spell = spell} item [] = restated (given_exact []) (λ xs none. rw none (tt, refl)) none
  where
    none : (xs : List A) → EachFits Fits [] xs → xs ≡ []
    none [] fits = refl
    none (x ∷ xs) fits = absurd fits
each_own_exact {D = D} {A = A} {Fits = Fits} {spell = spell} item (d ∷ ds) =
    mapped_exact (both_exact (item d) (λ a fits. each_own_exact item ds)) (record {
      there = λ x fits. (fits, refl);
      back = back;
    })
  where
    back : (xs : List A) → EachFits Fits (d ∷ ds) xs
        → (a : A × List A) × (Fits d a.0 × EachFits Fits ds a.1) × (a.0 ∷ a.1 ≡ xs) × (spell d a.0 ++ each_bytes spell ds a.1 ≡ each_bytes spell (d ∷ ds) xs)
    back [] fits = absurd fits
    back (x ∷ xs) fits = ((x, xs), fits, refl, refl)

-- where every item spells alike, the spellings are those of the values
pub each_bytes-alike : {D A : Type 0} (Fits : D → A → Type 0) (spell : A → List ℕ) (ds : List D) (xs : List A) → EachFits Fits ds xs
    → each_bytes (λ (d : D). spell) ds xs ≡ flat_map spell xs
each_bytes-alike Fits spell [] [] fits = refl
each_bytes-alike Fits spell [] (x ∷ xs) fits = absurd fits
each_bytes-alike Fits spell (d ∷ ds) [] fits = absurd fits
each_bytes-alike Fits spell (d ∷ ds) (x ∷ xs) fits = ap (λ more. spell x ++ more) (each_bytes-alike Fits spell ds xs fits.1)

-- one value for each item of a known list, all spelled alike
pub each_exact : {D A : Type 0} {Fits : D → A → Type 0} {spell : A → List ℕ} {read : D → Place → Read A}
    → ((d : D) → Exact (Fits d) spell (read d)) → (ds : List D) → Exact (EachFits Fits ds) (flat_map spell) (each_at read ds)
each_exact {Fits = Fits} {spell = spell} item ds =
    restated (each_own_exact item ds) (λ xs fits. (fits, each_bytes-alike Fits spell ds xs fits)) (λ xs fits. fits)

-- there are as many values as items
pub EachFits-length : {D A : Type 0} (Fits : D → A → Type 0) (ds : List D) (xs : List A) → EachFits Fits ds xs → length xs ≡ length ds
EachFits-length Fits [] [] fits = refl
EachFits-length Fits [] (x ∷ xs) fits = absurd fits
EachFits-length Fits (d ∷ ds) [] fits = absurd fits
EachFits-length Fits (d ∷ ds) (x ∷ xs) fits = ap suc (EachFits-length Fits ds xs fits.1)
