-- Where a reader is broken, there is the first broken field.
use Rattle.std.proofs.Common.{◌≡◌, ℕ, zero, suc, ◌+◌, ◌^◌, ◌<◌, ◌≤◌, Bool, true, false, nat_eq, nat_lt, nat_le, if◌then◌else◌, List, [], ◌∷◌, ◌++◌, length, Ok, Err, ◌⊎◌, inl, inr, refl, sym, ap, ◌∙◌, subst, arith, append_assoc, length-append}
use Rattle.std.specs.Prelude.{IsTrue}
use Rattle.std.proofs.lemmas.List.{append-nil, append_cancel_left}
use Rattle.std.proofs.Math.Dec.{eqb-suc-zero}
use Rattle.std.proofs.lemmas.Grind.{flat_map-append}
use Rattle.std.specs.List.{flat_map}
use Rattle.byteorder.specs.Endian.{little_number}
use Rattle.ts_base.specs.Labels.{is_label}
use Rattle.ts_wire.specs.Place.{Place, Read, place, ◌>>=◌, bytes_at, given, mapped, both, start_of, field, ruled, items_at, counted_at, whole}
use Rattle.ts_wire.specs.Exact.{IsBytes, Exact, Restates, InTurn}
use Rattle.ts_wire.specs.Numbers.{number_bytes, number_at, is_width, int_of, int_bytes, int_at, FitsInt}
use Rattle.ts_wire.specs.Fields.{bool_bytes, bool_at, sized_at, label_bytes, label_at, key_bytes, key_at, FitsKey, val_bytes, val_at, FitsVal}
use Rattle.ts_wire.specs.Broken.{joined, Broken, Surplus, BreaksAtStart, BreaksFirst, IsField}
use Rattle.ts_wire.specs.Laws.{AreFields}
use Rattle.ts_wire.proofs.Laws.{failed, same_ok, same_err, not_both, cut_at, AreInTurn}
use Rattle.ts_wire.proofs.Numbers.{number_exact, int_exact, width_bounds}
use Rattle.ts_wire.proofs.FieldLaws.{bool_exact, label_exact, key_exact, val_exact}

-- ---- lists of fields

-- the spellings of fields before and behind
joined-append : (xs ys : List (List ℕ)) → joined (xs ++ ys) ≡ joined xs ++ joined ys
joined-append xs ys = flat_map-append (λ field. field) xs ys

-- two ways to split one list: one begins with the other, which ends there or goes on
data Splits {A : Type 0} (xs ys us vs : List A) : Type 0 where
  longer : (more : List A) → us ≡ xs ++ more → ys ≡ more ++ vs → Splits xs ys us vs
  shorter : (x : A) (more : List A) → xs ≡ us ++ (x ∷ more) → vs ≡ (x ∷ more) ++ ys → Splits xs ys us vs

-- a list with one item more in front, on both sides
longer_by : {A : Type 0} (x : A) (xs ys us vs : List A) → Splits xs ys us vs → Splits (x ∷ xs) ys (x ∷ us) vs
longer_by x xs ys us vs (longer more a b) = longer more (ap (λ l. x ∷ l) a) b
longer_by x xs ys us vs (shorter y more a b) = shorter y more (ap (λ l. x ∷ l) a) b

-- equal lists have equal heads and tails
tail_of : {A : Type 0} (x y : A) (xs ys : List A) → x ∷ xs ≡ y ∷ ys → (x ≡ y) × (xs ≡ ys)
tail_of x y xs ys h = (cc, cc)

splits : {A : Type 0} (xs ys us vs : List A) → xs ++ ys ≡ us ++ vs → Splits xs ys us vs
splits [] ys us vs h = longer us refl h
splits (x ∷ xs) ys [] vs h = shorter x xs refl (sym h)
splits (x ∷ xs) ys (u ∷ us) vs h =
    let parts = tail_of x u (xs ++ ys) (us ++ vs) h in
    subst (λ w. Splits (x ∷ xs) ys (w ∷ us) vs) parts.0 (longer_by x xs ys us vs (splits xs ys us vs parts.1))

-- ---- readers

-- what fits is read where its spelling stands
reads_there : {A : Type 0} {Fits : A → Type 0} {spell : A → List ℕ} {read : Place → Read A} → Exact Fits spell read
    → (p : Place) (x : A) (rest : List ℕ) → Fits x → p.rest ≡ spell x ++ rest → read p ≡ Ok (x, place rest (p.at + length (spell x)))
reads_there {spell = spell} {read = read} exact p x rest fits parts =
    subst (λ bytes. read (place bytes p.at) ≡ Ok (x, place rest (p.at + length (spell x)))) (sym parts) (exact.again x rest p.at fits)

-- other words for what fits
pub broken_as : {A : Type 0} {Fits Other : A → Type 0} {read : Place → Read A} (fields : A → List (List ℕ)) → ((x : A) → Fits x → Other x) → ((x : A) → Other x → Fits x) → BreaksFirst Fits fields read → BreaksFirst Other fields read
broken_as fields there back first p at all h =
    let b = first p at all h in
    record {
      before = b.before;
      rest = b.rest;
      parts = b.parts;
      here = b.here;
      right = (b.right.0, there b.right.0 b.right.1, b.right.2, b.right.3);
      wrong = λ x next after tail fits same begins. b.wrong x next after tail (back x fits) same begins;
    }

module _ {A : Type 0} {Fits : A → Type 0} {spell : A → List ℕ} {read : Place → Read A} where
  -- a reader that is one field
  pub one_broken : Exact Fits spell read → (x : A) → Fits x → BreaksAtStart read → BreaksFirst Fits (λ y. spell y ∷ []) read
  one_broken exact x fits start p at all h = record {
    before = [];
    rest = p.rest;
    parts = refl;
    here = omega (arith, start p at h);
    right = (x, fits, spell x ∷ [], refl);
    wrong = λ y next after tail it same begins.
        let spelled : spell y ≡ next = (tail_of (spell y) next [] after same).0 in
        not_both (read p) _ at (reads_there exact p y tail it (begins ∙ ap (λ text. text ++ tail) (sym spelled))) h;
  }

  -- a value and nothing behind it
  pub whole_broken : Exact Fits spell read → (fields : A → List (List ℕ)) → ((x : A) → Fits x → joined (fields x) ≡ spell x) → BreaksFirst Fits fields read
      → (p : Place) (at : ℕ) → IsBytes p.rest → whole read p ≡ Err at → Broken Fits fields p at ⊎ Surplus Fits fields p at
  whole_broken exact fields spelled first p at all h = elim (failed (read p) (λ y. if nat_eq (length y.1.rest) 0 then Ok y.0 else Err y.1.at) at h) [
    | inl here ↦ inl (first p at all here)
    | inr far ↦
        let was = exact.takes p far.0 all far.1 in
        inr (surplus p at (far.0.0) (far.0.1) was.1 was.0.parts was.0.count far.0.1.rest refl far.2)
  ]
    where
      surplus : (p : Place) (at : ℕ) (x : A) (q : Place) → Fits x → p.rest ≡ spell x ++ q.rest → q.at ≡ p.at + length (spell x) → (rest : List ℕ) → q.rest ≡ rest
          → (if nat_eq (length rest) 0 then Ok x else Err q.at) ≡ Err at → Surplus Fits fields p at
      surplus p at x q fits parts count [] same h = absurd (not_both (Ok x) x at refl h)
      surplus p at x q fits parts count (b ∷ bs) same h = record {
        value = x;
        fits = fits;
        first = b;
        others = bs;
        parts = parts ∙ ap (λ rest. spell x ++ rest) same ∙ ap (λ text. text ++ (b ∷ bs)) (sym (spelled x fits));
        here = sym (same_err {A = A} (Err q.at) q.at at refl (ap (λ b. if b then Ok x else Err q.at) (sym (eqb-suc-zero (length bs))) ∙ h)) ∙ count ∙ ap (λ text. p.at + length text) (sym (spelled x fits));
      }

module _ {A B : Type 0} where
  -- what f makes of a value, whose fields are those of what it makes
  pub mapped_broken : {FitsA : A → Type 0} {spellA : A → List ℕ} {FitsB : B → Type 0} {spellB : B → List ℕ} {f : A → B} {read : Place → Read A}
      → Restates FitsA spellA FitsB spellB f → (fieldsA : A → List (List ℕ)) (fieldsB : B → List (List ℕ)) → ((a : A) → FitsA a → fieldsA a ≡ fieldsB (f a))
      → BreaksFirst FitsA fieldsA read → BreaksFirst FitsB fieldsB (mapped f read)
  mapped_broken {FitsA = FitsA} {FitsB = FitsB} {f = f} {read = read} says fieldsA fieldsB alike first p at all h = elim (failed (read p) (λ x. Ok (f x.0, x.1)) at h) [
    | inl here ↦
        let b = first p at all here in
        record {
          before = b.before;
          rest = b.rest;
          parts = b.parts;
          here = b.here;
          right = (f b.right.0, (says.there b.right.0 b.right.1).0, b.right.2, sym (alike b.right.0 b.right.1) ∙ b.right.3);
          wrong = λ y next after tail fits same begins.
              let made = says.back y fits in
              let whole : fieldsA made.0 ≡ b.before ++ (next ∷ after) = alike made.0 made.1 ∙ ap fieldsB made.2 ∙ same in
              b.wrong made.0 next after tail made.1 whole begins;
        }
    | inr far ↦ absurd (not_both (Ok (f far.0.0, far.0.1)) _ at refl far.2)
  ]

-- what fits is known by its spelling
known_by : {A : Type 0} {Fits : A → Type 0} {spell : A → List ℕ} {read : Place → Read A} → Exact Fits spell read
    → (x y : A) (more rest : List ℕ) → Fits x → Fits y → spell x ++ more ≡ spell y ++ rest → x ≡ y
known_by {spell = spell} {read = read} exact x y more rest fits same h =
    ap (λ z. z.0) (same_ok (read (place (spell x ++ more) 0)) _ _ (exact.again x more 0 fits) (reads_there exact (place (spell x ++ more) 0) y rest same h))

-- the fields of a value and of another behind it
abbrev pub fields_of : {A B : Type 0} → (A → List (List ℕ)) → (A → B → List (List ℕ)) → A × B → List (List ℕ)
fields_of first second x = first x.0 ++ second x.0 x.1

module _ {A : Type 0} {Fits : A → Type 0} {spell : A → List ℕ} {read : Place → Read A} where
  -- where a value is not whole, none has its fields before the offset and the next one there, whatever follows
  first_wrong : Exact Fits spell read → (fields : A → List (List ℕ)) → ((a : A) → Fits a → joined (fields a) ≡ spell a)
      → (p : Place) (at : ℕ) → read p ≡ Err at → (b : Broken Fits fields p at)
      → (a : A) (more : List (List ℕ)) (text tail : List ℕ) (after : List (List ℕ)) → Fits a → fields a ++ more ≡ b.before ++ (text ∷ after) → b.rest ≡ text ++ tail → ⊥
  first_wrong exact fields spelled p at h b a more text tail after fits same begins = decide (splits (fields a) more b.before (text ∷ after) same)
    where
      whole_there : (extra : List (List ℕ)) → b.before ≡ fields a ++ extra → ⊥
      whole_there extra parts =
          let bytes : p.rest ≡ spell a ++ (joined extra ++ b.rest) =
          b.parts ∙ ap (λ l. joined l ++ b.rest) parts ∙ ap (λ t. t ++ b.rest) (joined-append (fields a) extra)
          ∙ append_assoc (joined (fields a)) (joined extra) b.rest ∙ ap (λ t. t ++ (joined extra ++ b.rest)) (spelled a fits) in
          not_both (read p) _ at (reads_there exact p a (joined extra ++ b.rest) fits bytes) h

      decide : Splits (fields a) more b.before (text ∷ after) → ⊥
      decide (longer extra parts rest) = whole_there extra parts
      decide (shorter x extra parts rest) =
          let heads = tail_of text x after (extra ++ more) rest in
          b.wrong a text extra tail fits (parts ∙ ap (λ y. b.before ++ (y ∷ extra)) (sym heads.0)) begins

module _ {A B : Type 0} {FitsA : A → Type 0} {spellA : A → List ℕ} {read : Place → Read A} where
  -- where the value is whole and the one behind it is not, no pair has their fields before the offset and the next one there
  second_wrong : (FitsB : A → B → Type 0) → Exact FitsA spellA read → (fieldsA : A → List (List ℕ)) (fieldsB : A → B → List (List ℕ)) → ((a : A) → FitsA a → joined (fieldsA a) ≡ spellA a)
      → (p q : Place) (at : ℕ) (a : A) → FitsA a → p.rest ≡ spellA a ++ q.rest → (b : Broken (FitsB a) (fieldsB a) q at)
      → (x : A × B) (text tail : List ℕ) (after : List (List ℕ)) → FitsA x.0 → FitsB x.0 x.1 → fieldsA x.0 ++ fieldsB x.0 x.1 ≡ (fieldsA a ++ b.before) ++ (text ∷ after) → b.rest ≡ text ++ tail → ⊥
  second_wrong FitsB exact fieldsA fieldsB spelled p q at a fits parts b x text tail after fitsA fitsB same begins = decide (splits (fieldsA x.0) (fieldsB x.0 x.1) (fieldsA a ++ b.before) (text ∷ after) same)
    where
      joined_front : joined (fieldsA a ++ b.before) ≡ spellA a ++ joined b.before
      joined_front = joined-append (fieldsA a) b.before ∙ ap (λ t. t ++ joined b.before) (spelled a fits)

      behind : (y : A) → a ≡ y → FitsB y x.1 → fieldsB y x.1 ≡ b.before ++ (text ∷ after) → ⊥
      behind y same fitsB begun =
          let P : A → Type 0 = λ z. FitsB z x.1 × (fieldsB z x.1 ≡ b.before ++ (text ∷ after)) in
          let there = subst P (sym same) (fitsB, begun) in
          b.wrong x.1 text after tail there.0 there.1 begins

      decide : Splits (fieldsA x.0) (fieldsB x.0 x.1) (fieldsA a ++ b.before) (text ∷ after) → ⊥
      decide (longer extra front rest) =
          let bytes : spellA a ++ q.rest ≡ spellA x.0 ++ (joined extra ++ b.rest) =
          ap (λ t. spellA a ++ t) b.parts ∙ sym (append_assoc (spellA a) (joined b.before) b.rest) ∙ ap (λ t. t ++ b.rest) (sym joined_front ∙ ap joined front ∙ joined-append (fieldsA x.0) extra)
          ∙ append_assoc (joined (fieldsA x.0)) (joined extra) b.rest ∙ ap (λ t. t ++ (joined extra ++ b.rest)) (spelled x.0 fitsA) in
          let same_value = known_by exact a x.0 q.rest (joined extra ++ b.rest) fits fitsA bytes in
          let same_front : b.before ≡ extra = append_cancel_left (fieldsA a) b.before extra (front ∙ ap (λ z. fieldsA z ++ extra) (sym same_value)) in
          behind x.0 same_value fitsB (rest ∙ ap (λ l. l ++ (text ∷ after)) (sym same_front))
      decide (shorter y extra front rest) =
          let bytes : spellA x.0 ++ [] ≡ spellA a ++ (joined b.before ++ joined (y ∷ extra)) =
          append-nil (spellA x.0) ∙ sym (spelled x.0 fitsA) ∙ ap joined front ∙ joined-append (fieldsA a ++ b.before) (y ∷ extra) ∙ ap (λ t. t ++ joined (y ∷ extra)) joined_front
          ∙ append_assoc (spellA a) (joined b.before) (joined (y ∷ extra)) in
          let same_value = known_by exact x.0 a [] (joined b.before ++ joined (y ∷ extra)) fitsA fits bytes in
          let longer_than : length (fieldsA a) ≡ length ((fieldsA a ++ b.before) ++ (y ∷ extra)) = ap (λ z. length (fieldsA z)) (sym same_value) ∙ ap length front in
          omega (arith, longer_than, length-append (fieldsA a ++ b.before) (y ∷ extra), length-append (fieldsA a) b.before)

  -- a value and then another: each value has one that can stand behind it
  pub both_broken : {FitsB : A → B → Type 0} {next : A → Place → Read B} → Exact FitsA spellA read → (fieldsA : A → List (List ℕ)) (fieldsB : A → B → List (List ℕ)) → ((a : A) → FitsA a → joined (fieldsA a) ≡ spellA a)
      → ((a : A) → FitsA a → (b : B) × FitsB a b) → BreaksFirst FitsA fieldsA read → ((a : A) → FitsA a → BreaksFirst (FitsB a) (fieldsB a) (next a))
      → BreaksFirst (λ x. FitsA x.0 × FitsB x.0 x.1) (fields_of fieldsA fieldsB) (both read next)
  both_broken {FitsB = FitsB} {next = next} exact fieldsA fieldsB spelled complete first second p at all h = elim (failed (read p) (λ a. next a.0 a.1 >>= λ z. Ok ((a.0, z.0), z.1)) at h) [
    | inl here ↦
        let b = first p at all here in
        let mate = complete b.right.0 b.right.1 in
        record {
          before = b.before;
          rest = b.rest;
          parts = b.parts;
          here = b.here;
          right = ((b.right.0, mate.0), (b.right.1, mate.1), b.right.2 ++ fieldsB b.right.0 mate.0, ap (λ l. l ++ fieldsB b.right.0 mate.0) b.right.3 ∙ append_assoc b.before b.right.2 (fieldsB b.right.0 mate.0));
          wrong = λ x text after tail fits same begins. first_wrong exact fieldsA spelled p at here b x.0 (fieldsB x.0 x.1) text tail after fits.0 same begins;
        }
    | inr far ↦
        let was = exact.takes p far.0 all far.1 in
        elim (failed (next far.0.0 far.0.1) (λ z. Ok ((far.0.0, z.0), z.1)) at far.2) [
          | inl there ↦
              let b = second far.0.0 was.1 far.0.1 at was.0.bytes there in
              let front : joined (fieldsA far.0.0 ++ b.before) ≡ spellA far.0.0 ++ joined b.before = joined-append (fieldsA far.0.0) b.before ∙ ap (λ t. t ++ joined b.before) (spelled far.0.0 was.1) in
              record {
                before = fieldsA far.0.0 ++ b.before;
                rest = b.rest;
                parts = was.0.parts ∙ ap (λ t. spellA far.0.0 ++ t) b.parts ∙ sym (append_assoc (spellA far.0.0) (joined b.before) b.rest) ∙ ap (λ t. t ++ b.rest) (sym front);
                here = omega (arith, b.here, was.0.count, ap length front, length-append (spellA far.0.0) (joined b.before));
                right = ((far.0.0, b.right.0), (was.1, b.right.1), b.right.2, ap (λ l. fieldsA far.0.0 ++ l) b.right.3 ∙ sym (append_assoc (fieldsA far.0.0) b.before b.right.2));
                wrong = λ x text after tail fits same begins. second_wrong FitsB exact fieldsA fieldsB spelled p far.0.1 at far.0.0 was.1 was.0.parts b x text tail after fits.0 fits.1 same begins;
              }
          | inr over ↦ absurd (not_both (Ok ((far.0.0, over.0.0), over.0.1)) _ at refl over.2)
        ]
  ]

-- ---- lists

-- behind fewer values than the limit there can be one more
abbrev pub GoesOn : {A : Type 0} → (List A → A → Type 0) → ℕ → Type 0
GoesOn {A = A} Fits limit = (front : List A) → length front < limit → InTurn Fits [] front → (x : A) × Fits front x

-- one value more in turn
pub InTurn-more : {A : Type 0} (Fits : List A → A → Type 0) (front xs : List A) (x : A) → InTurn Fits front xs → Fits (front ++ xs) x → InTurn Fits front (xs ++ x ∷ [])
InTurn-more Fits front [] x fits one = (subst (λ l. Fits l x) (append-nil front) one, tt)
InTurn-more Fits front (y ∷ xs) x fits one = (fits.0, InTurn-more Fits (front ++ y ∷ []) xs x fits.1 (subst (λ l. Fits l x) (sym (append_assoc front (y ∷ []) xs)) one))

-- so there can be as many as are wanted, up to the limit
pub filled_up : {A : Type 0} (Fits : List A → A → Type 0) (limit : ℕ) → GoesOn Fits limit → (n : ℕ) (front : List A) → InTurn Fits [] front → n + length front ≤ limit → (xs : List A) × AreInTurn Fits n front xs
filled_up Fits limit goes zero front fits room = ([], (refl, tt))
filled_up Fits limit goes (suc n) front fits room =
    let one = goes front (omega arith) fits in
    let longer_by_one = length-append front (one.0 ∷ []) in
    let rest = filled_up Fits limit goes n (front ++ one.0 ∷ []) (InTurn-more Fits [] front one.0 fits one.1) (omega (arith, longer_by_one)) in
    (one.0 ∷ rest.0, (omega (arith, rest.1.0), (one.1, rest.1.1)))

module _ {A : Type 0} {Fits : List A → A → Type 0} {spell : A → List ℕ} {read : List A → Place → Read A} where
  -- n values, each read by those before it
  pub items_broken : ((front : List A) → Exact (Fits front) spell (read front)) → (fields : A → List (List ℕ)) → ((front : List A) (x : A) → Fits front x → joined (fields x) ≡ spell x)
      → (limit : ℕ) → ((front : List A) → length front < limit → BreaksFirst (Fits front) fields (read front)) → GoesOn Fits limit
      → (n : ℕ) (front : List A) → InTurn Fits [] front → n + length front ≤ limit → BreaksFirst (AreInTurn Fits n front) (flat_map fields) (items_at read n front)
  unfolding items_at
  items_broken exact fields spelled limit first goes zero front fits room = λ p at all h. absurd (not_both (given [] p) ([], p) at refl h)
  items_broken exact fields spelled limit first goes (suc n) front fits room =
      mapped_broken (record {
        there = λ x is. ((omega (arith, is.1.0), (is.0, is.1.1)), refl);
        back = back;
      }) (fields_of fields (λ a xs. flat_map fields xs)) (flat_map fields) (λ x is. refl)
      (both_broken (exact front) fields (λ a xs. flat_map fields xs) (spelled front)
      (λ a is. filled_up Fits limit goes n (front ++ a ∷ []) (InTurn-more Fits [] front a fits is) (omega (arith, length-append front (a ∷ []))))
      (first front (omega arith))
      (λ a is. items_broken exact fields spelled limit first goes n (front ++ a ∷ []) (InTurn-more Fits [] front a fits is) (omega (arith, length-append front (a ∷ [])))))
    where
      back : (xs : List A) → AreInTurn Fits (suc n) front xs
          → (a : A × List A) × (Fits front a.0 × AreInTurn Fits n (front ++ a.0 ∷ []) a.1) × (a.0 ∷ a.1 ≡ xs) × (spell a.0 ++ flat_map spell a.1 ≡ flat_map spell xs)
      back [] is = absurd (omega arith)
      back (x ∷ xs) is = ((x, xs), (is.1.0, (omega arith, is.1.1)), refl, refl)

  -- a count up to a limit, and so many values, each read by those before it
  pub counted_broken : {FitsCount : ℕ → Type 0} {spell_count : ℕ → List ℕ} {count : Place → Read ℕ} → Exact FitsCount spell_count count → ((front : List A) → Exact (Fits front) spell (read front))
      → (fields : A → List (List ℕ)) → ((front : List A) (x : A) → Fits front x → joined (fields x) ≡ spell x) → BreaksFirst FitsCount (λ n. spell_count n ∷ []) count
      → (limit : ℕ) → ((n : ℕ) → FitsCount n → n ≤ limit) → ((front : List A) → length front < limit → BreaksFirst (Fits front) fields (read front)) → GoesOn Fits limit
      → BreaksFirst (λ xs. FitsCount (length xs) × InTurn Fits [] xs) (λ xs. spell_count (length xs) ∷ flat_map fields xs) (counted_at count read)
  counted_broken {FitsCount = FitsCount} {spell_count = spell_count} counting item fields spelled first_count limit few first goes =
      mapped_broken {spellA = λ x. spell_count x.0 ++ flat_map spell x.1} {spellB = λ xs. spell_count (length xs) ++ flat_map spell xs} (record {
        there = λ x is.
            let P : ℕ → Type 0 = λ n. FitsCount n × InTurn Fits [] x.1 in
            (subst P (sym is.1.0) (is.0, is.1.1), ap (λ n. spell_count n ++ flat_map spell x.1) (sym is.1.0));
        back = λ xs is. ((length xs, xs), (is.0, (refl, is.1)), refl, refl);
      }) (fields_of (λ n. spell_count n ∷ []) (λ n xs. flat_map fields xs)) (λ xs. spell_count (length xs) ∷ flat_map fields xs)
      (λ x is. ap (λ n. spell_count n ∷ flat_map fields x.1) (sym is.1.0))
      (both_broken counting (λ n. spell_count n ∷ []) (λ n xs. flat_map fields xs) (λ n is. append-nil (spell_count n))
      (λ n is. filled_up Fits limit goes n [] tt (let most = few n is in omega (arith, most))) first_count
      (λ n is. items_broken item fields spelled limit first goes n [] tt (let most = few n is in omega (arith, most))))

-- ---- fields that are broken at their start

pub bytes_start : (n : ℕ) → BreaksAtStart (bytes_at n)
bytes_start n p at h = cut (nat_lt (length p.rest) n) h
  where
    cut : (short : Bool) → cut_at short n p ≡ Err at → at ≡ p.at
    cut true h = cc
    cut false h = absurd (not_both (cut_at false n p) _ at refl h)

pub field_start : {A : Type 0} (read : Place → Read A) → BreaksAtStart (field read)
field_start {A = A} read p at h = start (read p) h
  where
    start : (r : Read A) → start_of p.at r ≡ Err at → at ≡ p.at
    start (Ok x) h = absurd (not_both (start_of p.at (Ok x)) x at refl h)
    start (Err here) h = cc

pub mapped_start : {A B : Type 0} (f : A → B) {read : Place → Read A} → BreaksAtStart read → BreaksAtStart (mapped f read)
mapped_start f {read} start p at h = elim (failed (read p) (λ x. Ok (f x.0, x.1)) at h) [
  | inl here ↦ start p at here
  | inr far ↦ absurd (not_both (Ok (f far.0.0, far.0.1)) _ at refl far.2)
]

pub ruled_start : {A : Type 0} (rule : A → Bool) {read : Place → Read A} → BreaksAtStart read → BreaksAtStart (ruled rule read)
ruled_start {A = A} rule {read} start p at h = elim (failed (read p) (λ x. if rule x.0 then Ok x else Err p.at) at h) [
  | inl here ↦ start p at here
  | inr far ↦ off far.0 (rule far.0.0) far.2
]
  where
    off : (x : A × Place) (b : Bool) → (if b then Ok x else Err p.at) ≡ Err at → at ≡ p.at
    off x true h = absurd (not_both (Ok x) x at refl h)
    off x false h = cc

pub number_start : (n : ℕ) → BreaksAtStart (number_at n)
unfolding number_at
number_start n = mapped_start (little_number n) (bytes_start n)

pub int_start : (n : ℕ) (signed : Bool) → BreaksAtStart (int_at n signed)
unfolding int_at
int_start n signed = mapped_start (int_of n signed) (bytes_start n)

pub bool_start : BreaksAtStart bool_at
unfolding bool_at
bool_start = mapped_start (λ x. nat_eq x 1) (ruled_start (λ x. nat_le x 1) (number_start 1))

pub label_start : BreaksAtStart label_at
unfolding label_at
label_start = field_start (ruled is_label (sized_at 1))

pub key_start : BreaksAtStart key_at
unfolding key_at
key_start = field_start _

pub val_start : BreaksAtStart val_at
unfolding val_at
val_start = field_start _

-- so a bool is broken where it begins, and nowhere else
pub bool_broken : BreaksFirst (λ (b : Bool). Unit {0}) (λ b. bool_bytes b ∷ []) bool_at
bool_broken = one_broken bool_exact true tt bool_start

-- ---- the fields

pub number_field : (n : ℕ) → IsField (λ x. x < 256 ^ n) (number_bytes n) (number_at n)
number_field n = record { exact = number_exact n; start = number_start n }

pub int_field : (n : ℕ) (signed : Bool) → IsTrue (is_width n signed) → IsField (FitsInt n signed) (int_bytes n) (int_at n signed)
int_field n signed is =
    let bounds = width_bounds n signed is in
    record { exact = int_exact n signed bounds.0 bounds.1; start = int_start n signed }

pub bool_field : IsField (λ (b : Bool). Unit {0}) bool_bytes bool_at
bool_field = record { exact = bool_exact; start = bool_start }

pub label_field : IsField (λ text. IsTrue (is_label text)) label_bytes label_at
label_field = record { exact = label_exact; start = label_start }

pub key_field : IsField FitsKey key_bytes key_at
key_field = record { exact = key_exact; start = key_start }

pub val_field : IsField FitsVal val_bytes val_at
val_field = record { exact = val_exact; start = val_start }

pub are_fields : AreFields
are_fields = record {
  numbers = number_field;
  ints = int_field;
  bools = bool_field;
  labels = label_field;
  keys = key_field;
  vals = val_field;
}
