-- Where the attributes of a schema are broken, there is the first broken field: in front of the 64th attribute a name is always left.
use Rattle.std.proofs.Common.{◌≡◌, ℕ, zero, suc, ◌<◌, ◌≤◌, Bool, true, false, not, ◌&&◌, ◌||◌, cond, nat_eq, nat_le, List, [], ◌∷◌, ◌++◌, length, map, drop, replicate, Result, Ok, Err, inl, inr, refl, sym, ap, ◌∙◌, subst, arith, lit<}
use Rattle.std.specs.Prelude.{filter}
use Rattle.std.specs.List.{flat_map, list_all, list_any}
use Rattle.std.proofs.lemmas.Bool.{and_from, and_parts, or_parts, eqb-true, eq-eqb, ne_eqb, leb-true, le-leb}
use Rattle.std.proofs.lemmas.List.{append-nil, length-replicate, length-map, drop_at}
use Rattle.ts_base.specs.declared.values.ValType.{ValType}
use Rattle.ts_base.specs.declared.values.ValType.TheVariants.{I8, I16, I32, I64, U8, U16, U32, U64, Text, Blob}
use Rattle.ts_base.specs.declared.values.Val.{Val}
use Rattle.ts_base.specs.declared.values.Val.TheVariants.{Null}
use Rattle.ts_base.specs.Labels.{is_word_byte, is_label}
use Rattle.ts_value.specs.Fits.{fits_of}
use Rattle.ts_value.specs.Fill.{fill_of}
use Rattle.ts_value.proofs.FitLaws.{fits_of-Fits, fill_fits}
use Rattle.ts_wire.specs.declared.faults.ReadFault.{ReadFault}
use Rattle.ts_wire.specs.declared.faults.ReadFault.TheVariants as fault
use Rattle.ts_wire.specs.declared.kinds.Kind.TheVariants as kind
use Rattle.ts_wire.specs.Place.{place, both, whole}
use Rattle.ts_wire.specs.Exact.{IsBytes, InTurn}
use Rattle.ts_wire.specs.Envelope.{envelope_bytes, wrapped, unwrapped, object_at}
use Rattle.ts_wire.specs.Reading.{DecodesOr}
use Rattle.ts_wire.specs.Numbers.{number_bytes}
use Rattle.ts_wire.specs.Fields.{bool_bytes, bool_at, label_bytes, val_bytes, FitsVal}
use Rattle.ts_wire.specs.Broken.{joined, BreaksAtStart, BreaksFirst}
use Rattle.ts_wire.proofs.Laws.{failed, IsBytes-drop}
use Rattle.ts_wire.proofs.First.{GoesOn, fields_of, broken_as, counted_broken, one_broken, both_broken, mapped_broken, ruled_start, mapped_start, number_start, label_start, val_start, bool_broken, whole_broken}
use Rattle.ts_wire.proofs.Objects.{unwrapped_found, length-envelope_bytes}
use Rattle.std.proofs.lemmas.Grind.{flat_map-append}
use Rattle.ts_wire.proofs.FieldLaws.{bool_exact}
use Rattle.ts_schema.specs.declared.attrs.Attr.{Attr}
use Rattle.ts_schema.specs.Attrs.{same_name, has_attr}
use Rattle.ts_schema.specs.SchemaTexts.{is_type_code, type_of, type_bytes, type_at, name_at, fill_at, attr_at, is_attr_count, attr_count_at, attrs_at, schema_of, attr_bytes, attrs_bytes, FitsAttr, AreAttrs}
use Rattle.ts_schema.specs.BrokenSchemas.{attr_fields, attrs_fields, IsBroken, BreaksThere}
use Rattle.ts_schema.proofs.SchemaLaws.{type_exact, name_exact, fill_exact, attr_exact, attr_count_exact, attrs_exact, count_few}

-- ---- a number that is left

abbrev has : ℕ → List ℕ → Bool
has n taken = list_any (λ m. nat_eq m n) taken

-- the numbers but this one
abbrev others : ℕ → List ℕ → List ℕ
others n taken = filter (λ m. not (nat_eq m n)) taken

others_few : (n : ℕ) (taken : List ℕ) → length (others n taken) ≤ length taken
others_few n [] = omega arith
others_few n (m ∷ taken) = by_test (nat_eq m n) (others_few n taken)
  where
    by_test : (test : Bool) → length (others n taken) ≤ length taken → length (cond (not test) (m ∷ others n taken) (others n taken)) ≤ suc (length taken)
    by_test true few = omega (arith, few)
    by_test false few = omega (arith, few)

others_fewer : (n : ℕ) (taken : List ℕ) → has n taken ≡ true → length (others n taken) < length taken
others_fewer n [] is = cc
others_fewer n (m ∷ taken) is = by_test (nat_eq m n) (others_few n taken) (others_fewer n taken) is
  where
    by_test : (test : Bool) → length (others n taken) ≤ length taken → (has n taken ≡ true → length (others n taken) < length taken)
        → test || has n taken ≡ true → length (cond (not test) (m ∷ others n taken) (others n taken)) < suc (length taken)
    by_test true few fewer is = omega (arith, few)
    by_test false few fewer is = let less = fewer is in omega (arith, less)

-- what is not among the others, and is not that one, is not there
not_there : (n k : ℕ) (taken : List ℕ) → nat_eq n k ≡ false → has k (others n taken) ≡ false → has k taken ≡ false
not_there n k [] other none = refl
not_there n k (m ∷ taken) other none = by_test (nat_eq m n) refl (not_there n k taken other) none
  where
    by_test : (test : Bool) → nat_eq m n ≡ test → (has k (others n taken) ≡ false → has k taken ≡ false)
        → has k (cond (not test) (m ∷ others n taken) (others n taken)) ≡ false → nat_eq m k || has k taken ≡ false
    by_test true is rest none = rw (eqb-true m n is) (ap (λ b. b || has k taken) other ∙ rest none)
    by_test false is rest none =
        let parts = or_parts (nat_eq m k) (has k (others n taken)) none in
        ap (λ b. b || has k taken) parts.0 ∙ rest parts.1

record Free (n : ℕ) (taken : List ℕ) : Type 0 where
  number : ℕ
  some : 1 ≤ number
  few : number ≤ n
  free : has number taken ≡ false

-- of the numbers from 1 to n one is not in a list of fewer than n
free_of : (n : ℕ) (taken : List ℕ) → length taken < n → Free n taken
free_of zero taken less = absurd (omega arith)
free_of (suc n) taken less = by_test (has (suc n) taken) refl (free_of n (others (suc n) taken))
  where
    by_test : (test : Bool) → has (suc n) taken ≡ test → (length (others (suc n) taken) < n → Free n (others (suc n) taken)) → Free (suc n) taken
    by_test false is rest = record { number = suc n; some = omega arith; few = omega arith; free = is }
    by_test true is rest =
        let fewer = others_fewer (suc n) taken is in
        let f = rest (omega arith) in
        record { number = f.number; some = f.some; few = omega (arith, f.few); free = not_there (suc n) f.number taken (ne_eqb (suc n) f.number (omega (arith, f.few))) f.free }

-- ---- a name that is left: so many letters z

abbrev zs : ℕ → List ℕ
zs n = replicate n 122

are_word : (n : ℕ) → list_all is_word_byte (zs n) ≡ true
are_word zero = refl
are_word (suc n) = are_word n

length-zs : (n : ℕ) → length (zs n) ≡ n
length-zs n = length-replicate {A = ℕ} n 122

zs_label : (n : ℕ) → 1 ≤ n → n ≤ 64 → is_label (zs n) ≡ true
zs_label zero some few = absurd (omega arith)
zs_label (suc n) some few =
    let long : nat_le (length (zs (suc n))) 64 ≡ true = le-leb (length (zs (suc n))) 64 (omega (arith, length-zs (suc n))) in
    and_from (list_all is_word_byte (zs n) && nat_le (length (zs (suc n))) 64) true (and_from (list_all is_word_byte (zs n)) (nat_le (length (zs (suc n))) 64) (are_word n) long) refl

same_length : (xs ys : List ℕ) → same_name xs ys ≡ true → length xs ≡ length ys
same_length [] [] is = refl
same_length [] (y ∷ ys) is = cc
same_length (x ∷ xs) [] is = cc
same_length (x ∷ xs) (y ∷ ys) is = ap suc (same_length xs ys (and_parts (nat_eq x y) (same_name xs ys) is).1)

-- where no name has so many letters, none is of so many letters z
zs_new : (n : ℕ) (front : List Attr) → has n (map (λ a. length a.name) front) ≡ false → has_attr front (zs n) ≡ false
zs_new n [] free = refl
zs_new n (a ∷ front) free =
    let parts = or_parts (nat_eq (length a.name) n) (has n (map (λ a. length a.name) front)) free in
    let other : same_name a.name (zs n) ≡ false = by_test (same_name a.name (zs n)) refl parts.0 in
    ap (λ b. b || has_attr front (zs n)) other ∙ zs_new n front parts.1
  where
    by_test : (test : Bool) → same_name a.name (zs n) ≡ test → nat_eq (length a.name) n ≡ false → test ≡ false
    by_test false is other = refl
    by_test true is other =
        let same : length a.name ≡ n = same_length a.name (zs n) is ∙ length-zs n in
        sym (eq-eqb (length a.name) n same) ∙ other

-- behind fewer than 64 attributes there can be one more
record NewName (front : List Attr) : Type 0 where
  name : List ℕ
  label : is_label name ≡ true
  new_name : not (has_attr front name) ≡ true

new_name : (front : List Attr) → length front < 64 → NewName front
new_name front room =
    let f = free_of 64 (map (λ a. length a.name) front) (omega (arith, length-map front (λ a. length a.name))) in
    record { name = zs f.number; label = zs_label f.number f.some f.few; new_name = ap not (zs_new f.number front f.free) }

goes_on : GoesOn FitsAttr 64
goes_on front few fits =
    let fresh = new_name front few in
    (record { name = fresh.name; ty = I8; nullable = true; fill = Null }, record { label = fresh.label; new_name = fresh.new_name; value = tt; fill = refl })

-- ---- the fields of an attribute

type_start : BreaksAtStart type_at
unfolding type_at
type_start = mapped_start type_of (ruled_start is_type_code (number_start 1))

type_first : BreaksFirst (λ (ty : ValType). Unit {0}) (λ ty. type_bytes ty ∷ []) type_at
type_first = one_broken type_exact I8 tt type_start

name_start : (front : List Attr) → BreaksAtStart (name_at front)
unfolding name_at
name_start front = ruled_start (λ name. not (has_attr front name)) label_start

fill_start : (ty : ValType) (nullable : Bool) → BreaksAtStart (fill_at ty nullable)
unfolding fill_at
fill_start ty nullable = ruled_start (fits_of ty nullable) val_start

-- the default fill has a spelling
fill_spelled : (ty : ValType) (nullable : Bool) → FitsVal (fill_of ty nullable)
fill_spelled ty true = tt
fill_spelled I8 false = lit< tt
fill_spelled I16 false = lit< tt
fill_spelled I32 false = lit< tt
fill_spelled I64 false = lit< tt
fill_spelled U8 false = lit< tt
fill_spelled U16 false = lit< tt
fill_spelled U32 false = lit< tt
fill_spelled U64 false = lit< tt
fill_spelled Text false = (lit< tt, λ i. lit< tt)
fill_spelled Blob false = (lit< tt, λ i. lit< tt)

fill_first : (ty : ValType) (nullable : Bool) → BreaksFirst (λ fill. FitsVal fill × (fits_of ty nullable fill ≡ true)) (λ fill. val_bytes fill ∷ []) (fill_at ty nullable)
fill_first ty nullable =
    one_broken (fill_exact ty nullable) (fill_of ty nullable) (fill_spelled ty nullable, fits_of-Fits ty nullable (fill_of ty nullable) (fill_fits ty nullable)) (fill_start ty nullable)

-- the fields behind the nullability, behind the type, and behind the name
abbrev fill_fields : Val → List (List ℕ)
fill_fields fill = val_bytes fill ∷ []

abbrev null_fields : Bool × Val → List (List ℕ)
null_fields = fields_of (λ nullable. bool_bytes nullable ∷ []) (λ nullable. fill_fields)

abbrev type_fields : ValType × (Bool × Val) → List (List ℕ)
type_fields = fields_of (λ ty. type_bytes ty ∷ []) (λ ty. null_fields)

abbrev name_fields : List ℕ × (ValType × (Bool × Val)) → List (List ℕ)
name_fields = fields_of (λ name. label_bytes name ∷ []) (λ name. type_fields)

abbrev FitsNull : ValType → Bool × Val → Type 0
FitsNull ty x = Unit {0} × (FitsVal x.1 × (fits_of ty x.0 x.1 ≡ true))

abbrev FitsType : ValType × (Bool × Val) → Type 0
FitsType x = Unit {0} × FitsNull x.0 x.1

null_first : (ty : ValType) → BreaksFirst (FitsNull ty) null_fields (both bool_at (λ nullable. fill_at ty nullable))
null_first ty =
    both_broken bool_exact (λ nullable. bool_bytes nullable ∷ []) (λ nullable. fill_fields) (λ nullable is. append-nil (bool_bytes nullable))
    (λ nullable is. (fill_of ty nullable, (fill_spelled ty nullable, fits_of-Fits ty nullable (fill_of ty nullable) (fill_fits ty nullable)))) bool_broken
    (λ nullable is. fill_first ty nullable)

type_on : BreaksFirst FitsType type_fields (both type_at (λ ty. both bool_at (λ nullable. fill_at ty nullable)))
type_on =
    both_broken type_exact (λ ty. type_bytes ty ∷ []) (λ ty. null_fields) (λ ty is. append-nil (type_bytes ty)) (λ ty is. ((true, Null), (tt, (tt, refl)))) type_first
    (λ ty is. null_first ty)

attr_first : (front : List Attr) → length front < 64 → BreaksFirst (FitsAttr front) attr_fields (attr_at front)
unfolding attr_at attr_bytes
attr_first front room =
    let fresh = new_name front room in
    mapped_broken {spellA = λ x. label_bytes x.0 ++ (type_bytes x.1.0 ++ (bool_bytes x.1.1.0 ++ val_bytes x.1.1.1))} {spellB = attr_bytes} (record {
      there = λ x fits. (record { label = fits.0.0; new_name = fits.0.1; value = fits.1.1.1.0; fill = fits.1.1.1.1 }, refl);
      back = λ a fits. ((a.name, (a.ty, (a.nullable, a.fill))), ((fits.label, fits.new_name), (tt, (tt, (fits.value, fits.fill)))), refl, refl);
    }) name_fields attr_fields (λ x fits. refl)
    (both_broken (name_exact front) (λ name. label_bytes name ∷ []) (λ name. type_fields) (λ name is. append-nil (label_bytes name)) (λ name is. ((I8, (true, Null)), (tt, (tt, (tt, refl)))))
    (one_broken (name_exact front) fresh.name (fresh.label, fresh.new_name) (name_start front)) (λ name is. type_on))

-- ---- the list of attributes

attr_spelled : (front : List Attr) (a : Attr) → FitsAttr front a → joined (attr_fields a) ≡ attr_bytes a
unfolding attr_bytes
attr_spelled front a fits = ap (λ rest. label_bytes a.name ++ (type_bytes a.ty ++ (bool_bytes a.nullable ++ rest))) (append-nil (val_bytes a.fill))

count_start : BreaksAtStart attr_count_at
unfolding attr_count_at
count_start = ruled_start is_attr_count (number_start 1)

-- a number of attributes that may be is 64 at most
count_most : (count : ℕ) → is_attr_count count ≡ true → count ≤ 64
count_most count is = leb-true count 64 (and_parts (nat_le 1 count) (nat_le count 64) is).1

attrs_first : BreaksFirst AreAttrs attrs_fields attrs_at
unfolding attrs_at attrs_bytes
attrs_first =
    broken_as attrs_fields (λ attrs fits. record { count = fits.0.1; each = fits.1 }) (λ attrs are. ((count_few (length attrs) are.count, are.count), are.each))
    (counted_broken attr_count_exact attr_exact attr_fields attr_spelled (one_broken attr_count_exact 1 (lit< tt, refl) count_start) 64 (λ n is. count_most n is.1) attr_first goes_on)

-- ---- the object

attrs_spelled : (attrs : List Attr) → AreAttrs attrs → joined (attrs_fields attrs) ≡ attrs_bytes attrs
unfolding attrs_bytes
attrs_spelled attrs are = ap (λ rest. number_bytes 1 (length attrs) ++ rest) (each [] attrs are.each)
  where
    cong_two : {x y u v : List ℕ} → x ≡ y → u ≡ v → x ++ u ≡ y ++ v
    cong_two {y = y} {u = u} same other = ap (λ l. l ++ u) same ∙ ap (λ l. y ++ l) other

    each : (front attrs : List Attr) → InTurn FitsAttr front attrs → joined (flat_map attr_fields attrs) ≡ flat_map attr_bytes attrs
    each front [] fits = refl
    each front (a ∷ attrs) fits = flat_map-append (λ field. field) (attr_fields a) (flat_map attr_fields attrs) ∙ cong_two (attr_spelled front a fits.0) (each (front ++ a ∷ []) attrs fits.1)

broken_there : (object : List ℕ) (at : ℕ) → IsBytes object → schema_of object ≡ Err at → IsBroken object at
unfolding schema_of object_at wrapped
broken_there object at all h = elim (failed (unwrapped kind.Schema object) (λ body. whole attrs_at (place body 14)) at h) [
  | inl here ↦ inl here
  | inr far ↦
      let was = unwrapped_found kind.Schema object far.0 all far.1 in
      let cut = ap (drop 14) was ∙ drop_at (envelope_bytes kind.Schema (length far.0)) far.0 14 (length-envelope_bytes kind.Schema (length far.0)) in
      let bytes : IsBytes far.0 = subst IsBytes cut (IsBytes-drop 14 object all) in
      inr (far.0, was, whole_broken attrs_exact attrs_fields attrs_spelled attrs_first (place far.0 14) at bytes far.2)
]

-- what a call that decodes a schema says of its offset
pub breaks_there : {A : Type 0} (seen : A → List Attr) (object : List ℕ) (result : Result A ReadFault) → IsBytes object → DecodesOr seen (schema_of object) result → BreaksThere object result
breaks_there seen object (Ok x) all h = tt
breaks_there seen object (Err (fault.Damaged damaged)) all h = broken_there object damaged.at all h
breaks_there seen object (Err fault.OutOfMemory) all h = tt
