-- The fields that were named go on fitting as more are named, and a value that clashes with none is of its field's kind.
use Rattle.std.proofs.Common.{◌≡◌, ℕ, zero, suc, ◌+◌, ◌<◌, ◌≤◌, Bool, true, false, not, ◌&&◌, ◌||◌, nat_eq, if◌then◌else◌, List, [], ◌∷◌, ◌++◌, length, take, drop, slice_get, Option, Some, None, ◌⊎◌, inl, inr, refl, sym, ap, ◌∙◌, subst, arith, append_assoc, length-append}
use Rattle.std.proofs.lemmas.List.{append-nil}
use Rattle.std.specs.Cmp.Lexicographic.{pointwise}
use Rattle.ts_base.specs.declared.values.Val.{Val}
use Rattle.ts_base.specs.declared.values.Val.TheVariants.{Int, Bytes}
use Rattle.ts_base.specs.declared.values.ValType.{ValType}
use Rattle.ts_base.specs.declared.values.ValType.TheVariants as ty
use Rattle.ts_wire.specs.Exact.{InTurn}
use Rattle.ts_wire.specs.Fields.{FitsVal}
use Rattle.ts_cond.specs.declared.faults.CondFault.{CondFault}
use Rattle.ts_cond.specs.declared.faults.CondFault.TheVariants as fault
use Rattle.ts_cond.specs.declared.fields.CondField.{CondField}
use Rattle.ts_cond.specs.declared.naming.Naming.{Naming}
use Rattle.ts_cond.specs.CondTexts.{has_field, FitsField, is_of_kind}
use Rattle.ts_cond.specs.Machine.{first, named_from, newly_named, newly, meets_by, meets, suits, judged}
use Rattle.ts_cond.specs.Tokens.{Kind, Number, Text, Blob, unquoted, unhexed}
use Rattle.ts_cond.proofs.GoodTokens.{IsGood}

-- ---- names

same_back : (a b : List ℕ) → pointwise nat_eq a b ≡ pointwise nat_eq b a
same_back [] [] = refl
same_back [] (y ∷ ys) = refl
same_back (x ∷ xs) [] = refl
same_back (x ∷ xs) (y ∷ ys) =
    let one : nat_eq x y ≡ nat_eq y x = grind arith in
    ap (λ b. b && pointwise nat_eq xs ys) one ∙ ap (λ b. nat_eq y x && b) (same_back xs ys)

or_assoc : (a b c : Bool) → ((a || b) || c) ≡ (a || (b || c))
or_assoc true b c = refl
or_assoc false b c = refl

has_field-append : (xs ys : List CondField) (name : List ℕ) → has_field (xs ++ ys) name ≡ (has_field xs name || has_field ys name)
has_field-append [] ys name = refl
has_field-append (x ∷ xs) ys name =
    ap (λ b. pointwise nat_eq x.name name || b) (has_field-append xs ys name) ∙ sym (or_assoc (pointwise nat_eq x.name name) (has_field xs name) (has_field ys name))

-- the names of these fields are the names of those
abbrev SameNames : List CondField → List CondField → Type 0
SameNames xs ys = (name : List ℕ) → has_field xs name ≡ has_field ys name

or_none : (a : Bool) → (a || false) ≡ a
or_none true = refl
or_none false = refl

has_one : (x : CondField) (name : List ℕ) → has_field (x ∷ []) name ≡ pointwise nat_eq x.name name
has_one x name = or_none (pointwise nat_eq x.name name)

-- whether one of some fields and one more has the name
has_more : (xs : List CondField) (x : CondField) (name : List ℕ) → has_field (xs ++ x ∷ []) name ≡ (has_field xs name || pointwise nat_eq x.name name)
has_more xs x name = has_field-append xs (x ∷ []) name ∙ ap (λ b. has_field xs name || b) (has_one x name)

same_more : (xs ys more : List CondField) → SameNames xs ys → SameNames (xs ++ more) (ys ++ more)
same_more xs ys more same name = has_field-append xs more name ∙ ap (λ b. b || has_field more name) (same name) ∙ sym (has_field-append ys more name)

or_swap : (a b c : Bool) → ((a || b) || c) ≡ ((a || c) || b)
or_swap true b c = refl
or_swap false true true = refl
or_swap false true false = refl
or_swap false false true = refl
or_swap false false false = refl

same_swapped : (xs : List CondField) (x y : CondField) → SameNames ((xs ++ x ∷ []) ++ y ∷ []) ((xs ++ y ∷ []) ++ x ∷ [])
same_swapped xs x y name =
    has_more (xs ++ x ∷ []) y name ∙ ap (λ b. b || pointwise nat_eq y.name name) (has_more xs x name)
    ∙ or_swap (has_field xs name) (pointwise nat_eq x.name name) (pointwise nat_eq y.name name)
    ∙ sym (has_more (xs ++ y ∷ []) x name ∙ ap (λ b. b || pointwise nat_eq x.name name) (has_more xs y name))

-- ---- fields that fit

-- a field fits behind others whose names are not its own
refits : (front other : List CondField) (f : CondField) → FitsField front f → not (has_field other f.name) ≡ true → FitsField other f
refits front other f fits new = record {
  label = fits.label;
  new_name = new;
  index = fits.index;
  type = fits.type;
  null = fits.null;
  value = fits.value;
  default = fits.default;
}

not_first : (a b : Bool) → not (a || b) ≡ true → not a ≡ true
not_first true b h = h
not_first false b h = refl

not_second : (a b : Bool) → not (a || b) ≡ true → not b ≡ true
not_second true b h = absurd (let same : false ≡ true = h in cc)
not_second false b h = h

not_both_of : (a b : Bool) → not a ≡ true → not b ≡ true → not (a || b) ≡ true
not_both_of true b h k = h
not_both_of false b h k = k

in_turn_same : (front other xs : List CondField) → SameNames front other → InTurn FitsField front xs → InTurn FitsField other xs
in_turn_same front other [] same fits = tt
in_turn_same front other (x ∷ xs) same fits =
    (refits front other x fits.0 (ap not (sym (same x.name)) ∙ fits.0.new_name), in_turn_same (front ++ x ∷ []) (other ++ x ∷ []) xs (same_more front other (x ∷ []) same) fits.1)

-- the field that is named next stands before those that are not
bubbled : (front xs : List CondField) (f : CondField) (ys : List CondField) → InTurn FitsField front (xs ++ f ∷ ys) → InTurn FitsField front (f ∷ (xs ++ ys))
bubbled front [] f ys fits = fits
bubbled front (x ∷ xs) f ys fits =
    let more = bubbled (front ++ x ∷ []) xs f ys fits.1 in
    let new = ap not (sym (has_more front x f.name)) ∙ more.0.new_name in
    let other = ap not (same_back f.name x.name) ∙ not_second (has_field front f.name) (pointwise nat_eq x.name f.name) new in (
      refits (front ++ x ∷ []) front f more.0 (not_first (has_field front f.name) (pointwise nat_eq x.name f.name) new),
      (
        refits front (front ++ f ∷ []) x fits.0 (ap not (has_more front f x.name) ∙ not_both_of (has_field front x.name) (pointwise nat_eq f.name x.name) fits.0.new_name other),
        in_turn_same ((front ++ x ∷ []) ++ f ∷ []) ((front ++ f ∷ []) ++ x ∷ []) (xs ++ ys) (same_swapped front x f) more.1,
      ),
    )

pub in_turn_split : (front xs ys : List CondField) → InTurn FitsField front (xs ++ ys) → InTurn FitsField front xs × InTurn FitsField (front ++ xs) ys
in_turn_split front [] ys fits = (tt, subst (λ zs. InTurn FitsField zs ys) (sym (append-nil front)) fits)
in_turn_split front (x ∷ xs) ys fits =
    let more = in_turn_split (front ++ x ∷ []) xs ys fits.1 in
    ((fits.0, more.0), subst (λ zs. InTurn FitsField zs ys) (append_assoc front (x ∷ []) xs) more.1)

in_turn_join : (front xs ys : List CondField) → InTurn FitsField front xs → InTurn FitsField (front ++ xs) ys → InTurn FitsField front (xs ++ ys)
in_turn_join front [] ys some more = subst (λ zs. InTurn FitsField zs ys) (append-nil front) more
in_turn_join front (x ∷ xs) ys some more =
    (some.0, in_turn_join (front ++ x ∷ []) xs ys some.1 (subst (λ zs. InTurn FitsField zs ys) (sym (append_assoc front (x ∷ []) xs)) more))

-- ---- fields that were named

-- the fields that were named and those that were not fit one behind the other, and they are few
pub record NamingFits (naming : Naming) : Type 0 where
  pub each : InTurn FitsField [] (naming.used ++ naming.unused)
  pub few : length naming.used + length naming.unused ≤ 72

-- a field that was named before, at this place
pub record IsOld (naming : Naming) (x : ℕ × Naming) : Type 0 where
  pub same : x.1 ≡ naming
  pub within : x.0 < length naming.used

-- a field that is named for the first time
pub record IsNew (naming : Naming) (x : ℕ × Naming) : Type 0 where
  pub field : CondField
  pub place : x.0 ≡ length naming.used
  pub used : x.1.used ≡ naming.used ++ field ∷ []
  pub fits : NamingFits x.1
  pub clash : x.1.clash ≡ naming.clash

pub some_first : (c : Option CondFault) (w : CondFault) → first c w ≡ None → ⊥
some_first None w h = let some : Some w ≡ None = h in cc
some_first (Some b) w h = let some : Some b ≡ None = h in cc

named_case : (b : Bool) (place here : ℕ) (next : Option ℕ) (count : ℕ) → (if b then Some place else next) ≡ Some here → place < count → (next ≡ Some here → here < count) → here < count
named_case true place here next count h few more = let same : place ≡ here = cc in omega (arith, same, few)
named_case false place here next count h few more = more h

named_within : (place : ℕ) (name : List ℕ) (fields : List CondField) (here : ℕ) → named_from place name fields ≡ Some here → here < place + length fields
named_within place name [] here h = absurd (let none : None ≡ Some here = h in cc)
named_within place name (f ∷ fs) here h =
    named_case (pointwise nat_eq f.name name) place here (named_from (place + 1) name fs) (place + suc (length fs)) h (omega arith)
    (λ k. let more = named_within (place + 1) name fs here k in omega (arith, more))

parted_at : (xs : List CondField) (n : ℕ) (f : CondField) → slice_get xs n ≡ Some f → xs ≡ take n xs ++ f ∷ drop (suc n) xs
parted_at [] n f h = absurd (let none : None ≡ Some f = h in cc)
parted_at (x ∷ xs) zero f h = let same : x ≡ f = cc in ap (λ y. y ∷ xs) same
parted_at (x ∷ xs) (suc n) f h = ap (λ ys. x ∷ ys) (parted_at xs n f h)

-- a list around one of its items
parted : (xs : List CondField) (n : ℕ) (f : CondField) → slice_get xs n ≡ Some f → xs ≡ take n xs ++ f ∷ drop (n + 1) xs
parted xs n f h = let next : suc n ≡ n + 1 = omega arith in parted_at xs n f h ∙ ap (λ m. take n xs ++ f ∷ drop m xs) next

taken_new : (place : ℕ) (got : Option CondField) (naming : Naming) → NamingFits naming → slice_get naming.unused place ≡ got → place < length naming.unused
    → IsNew naming (length naming.used, newly_named place got naming)
taken_new place None naming fits h few = absurd (none_within naming.unused place h few)
  where
    none_within : (xs : List CondField) (n : ℕ) → slice_get xs n ≡ None → n < length xs → ⊥
    none_within [] n h few = omega (arith, few)
    none_within (x ∷ xs) zero h few = let some : Some x ≡ None = h in cc
    none_within (x ∷ xs) (suc n) h few = none_within xs n h (omega (arith, few))
taken_new place (Some f) naming fits h few =
    let left = take place naming.unused ++ drop (place + 1) naming.unused in
    let parts = parted naming.unused place f h in
    let split = in_turn_split [] naming.used naming.unused fits.each in
    let next = bubbled naming.used (take place naming.unused) f (drop (place + 1) naming.unused) (subst (InTurn FitsField naming.used) parts split.1) in
    let whole = in_turn_join [] naming.used (f ∷ left) split.0 next in
    let count = ap length parts ∙ length-append (take place naming.unused) (f ∷ drop (place + 1) naming.unused) in
    record {
      field = f;
      place = refl;
      used = refl;
      fits = record {
        each = subst (InTurn FitsField []) (sym (append_assoc naming.used (f ∷ []) left)) whole;
        few = omega (arith, fits.few, count, length-append naming.used (f ∷ []), length-append (take place naming.unused) (drop (place + 1) naming.unused));
      };
      clash = refl;
    }

newly_case : (found : Option ℕ) (name : List ℕ) (naming : Naming) → NamingFits naming → named_from 0 name naming.unused ≡ found → (newly found name naming).1.clash ≡ None
    → IsNew naming (newly found name naming)
newly_case None name naming fits h clear = absurd (some_first naming.clash (fault.UnknownField name) clear)
newly_case (Some place) name naming fits h clear =
    taken_new place (slice_get naming.unused place) naming fits refl (let few = named_within 0 name naming.unused place h in omega (arith, few))

meets_case : (found : Option ℕ) (name : List ℕ) (naming : Naming) → NamingFits naming → named_from 0 name naming.used ≡ found → (meets_by found name naming).1.clash ≡ None
    → IsOld naming (meets_by found name naming) ⊎ IsNew naming (meets_by found name naming)
meets_case None name naming fits h clear = inr (newly_case (named_from 0 name naming.unused) name naming fits refl clear)
meets_case (Some place) name naming fits h clear = inl (record { same = refl; within = let few = named_within 0 name naming.used place h in omega (arith, few) })

-- a field that is named is an old one or a new one, unless there is a fault
pub meets_fits : (name : List ℕ) (naming : Naming) → NamingFits naming → (meets name naming).1.clash ≡ None → IsOld naming (meets name naming) ⊎ IsNew naming (meets name naming)
meets_fits name naming fits clear = meets_case (named_from 0 name naming.used) name naming fits refl clear

-- ---- values

-- a value is the one that a token spells
pub record IsSpelledBy (kind : Kind) (v : Val) : Type 0 where
  pub value : FitsVal v
  pub suits : (t : ValType) → suits t kind ≡ true → is_of_kind t v ≡ true

none_true : false ≡ true → ⊥
none_true h = cc

pub number_spelled : (z : _) → IsGood (Number z) → IsSpelledBy (Number z) (Int z)
number_spelled z good = record { value = good; suits = suit }
  where
    suit : (t : ValType) → suits t (Number z) ≡ true → is_of_kind t (Int z) ≡ true
    suit ty.Text h = h
    suit ty.Blob h = h
    suit t h = h

pub text_spelled : (raw : List ℕ) → IsGood (Text raw) → IsSpelledBy (Text raw) (Bytes (unquoted false raw))
text_spelled raw good = record { value = good.0; suits = suit }
  where
    suit : (t : ValType) → suits t (Text raw) ≡ true → is_of_kind t (Bytes (unquoted false raw)) ≡ true
    suit ty.Text h = good.1
    suit t h = absurd (none_true h)

pub blob_spelled : (digits : List ℕ) → IsGood (Blob digits) → IsSpelledBy (Blob digits) (Bytes (unhexed digits))
blob_spelled digits good = record { value = good; suits = suit }
  where
    suit : (t : ValType) → suits t (Blob digits) ≡ true → is_of_kind t (Bytes (unhexed digits)) ≡ true
    suit ty.Blob h = refl
    suit t h = absurd (none_true h)

judged_case : (b : Bool) (field : CondField) (naming : Naming)
    → (if b then naming else record { used = naming.used; unused = naming.unused; clash = first naming.clash (fault.TypeClash field.name) }).clash ≡ None
    → ((if b then naming else record { used = naming.used; unused = naming.unused; clash = first naming.clash (fault.TypeClash field.name) }) ≡ naming) × (b ≡ true)
judged_case true field naming clear = (refl, refl)
judged_case false field naming clear = absurd (some_first naming.clash (fault.TypeClash field.name) clear)

-- the named fields are as they were, and the value is of the field's kind, if there is the field
pub judges_clear : (got : Option CondField) (kind : Kind) (naming : Naming) → (judged got kind naming).clash ≡ None
    → (judged got kind naming ≡ naming) × ((f : CondField) → got ≡ Some f → suits f.ty kind ≡ true)
judges_clear None kind naming clear = (refl, λ f none. absurd (let no_field : None ≡ Some f = none in cc))
judges_clear (Some g) kind naming clear =
    let case = judged_case (suits g.ty kind) g naming clear in
    (case.0, λ f same. let is : g ≡ f = cc in subst (λ e. suits e.ty kind ≡ true) is case.1)
