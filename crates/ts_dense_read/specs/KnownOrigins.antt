-- The origins of slots that were read: each is one of those of the fragment, or that of a hole.
use Rattle.std.proofs.Common.{◌≡◌, ℕ, suc, ◌<◌, ◌≤◌, Bool, true, false, ◌&&◌, ◌||◌, nat_eq, nat_lt, List, [], ◌∷◌, length, replicate, Ok, Err, refl, ap, subst, ◌⊎◌, inl, inr, arith}
use Rattle.std.specs.Prelude.{if◌then◌else◌}
use Rattle.std.specs.List.{All}
use Rattle.std.proofs.Math.ListN.{length-replicate}
use Rattle.std.proofs.lemmas.Bool.{and_parts, ltb-true, eqb-true}
use Rattle.std.proofs.lemmas.List.Elements.{All-nil, All-cons, All-replicate}
use Rattle.ts_base.specs.declared.names.Part.TheVariants as part
use Rattle.ts_base.specs.declared.values.Val.{Val}
use Rattle.ts_wire.specs.Place.{Place, Read, place, ◌>>=◌, both, ruled, each_at, whole}
use Rattle.ts_wire.specs.Exact.{EachFits}
use Rattle.ts_wire.specs.Numbers.{number_at}
use Rattle.ts_wire.proofs.Laws.{bound, same_ok, not_both}
use Rattle.ts_schema.specs.declared.attrs.Attr.{Attr}
use Rattle.ts_dense.specs.Slots.{no_origin}
use Rattle.ts_sparse_read.specs.Faults.{Ranged, bytes_of}
use Rattle.ts_sparse_read.specs.ReadRows.{IsColumn}
use Rattle.ts_sparse_read.specs.ReadColumns.{part_ok}
use Rattle.ts_dense_read.specs.SlotReads.{are_of_hole, may_be_slot, slot_origin_at, slot_origins_in, slot_origins_if}

-- ---- what is read keeps its rule

-- a value that was read keeps its rule
ruled_keeps : {A : Type 0} (rule : A → Bool) (read : Place → Read A) (p : Place) (y : A × Place) → ruled rule read p ≡ Ok y → rule y.0 ≡ true
ruled_keeps {A = A} rule read p y h = let b = bound (read p) (λ (x : A × Place). if rule x.0 then Ok x else Err p.at) y h in by b.first (rule b.first.0) refl b.next
  where
    by : (x : A × Place) (t : Bool) → rule x.0 ≡ t → (if t then Ok x else Err p.at) ≡ Ok y → rule y.0 ≡ true
    by x true e k = subst (λ (z : A × Place). rule z.0 ≡ true) (same_ok (Ok x) x y refl k) e
    by x false e k = absurd (not_both (Err p.at) y p.at k refl)

-- what was read whole was read
whole_keeps : {A : Type 0} (read : Place → Read A) (p : Place) (x : A) → whole read p ≡ Ok x → (y : A × Place) × (read p ≡ Ok y) × (y.0 ≡ x)
whole_keeps {A = A} read p x h =
    let b = bound (read p) (λ (z : A × Place). if nat_eq (length z.1.rest) 0 then Ok z.0 else Err z.1.at) x h in
    (b.first, b.was, by b.first (nat_eq (length b.first.1.rest) 0) b.next)
  where
    by : (z : A × Place) (t : Bool) → (if t then Ok z.0 else Err z.1.at) ≡ Ok x → z.0 ≡ x
    by z true k = same_ok (Ok z.0) z.0 x refl k
    by z false k = absurd (not_both (Err z.1.at) x z.1.at k refl)

module _ {D A : Type 0} (read : D → Place → Read A) (Q : D → A → Type 0) (one : (d : D) (p : Place) (y : A × Place) → read d p ≡ Ok y → Q d y.0) where
  -- what holds of each value that is read for an item holds of all
  each_keeps : (ds : List D) (p : Place) (y : List A × Place) → each_at read ds p ≡ Ok y → EachFits Q ds y.0
  unfolding each_at
  each_keeps [] p y h = subst (λ (z : List A × Place). EachFits Q [] z.0) (same_ok (Ok ([], p)) ([], p) y refl h) tt
  each_keeps (d ∷ ds) p y h =
      let m = bound (both (read d) (λ _. each_at read ds) p) (λ (x : (A × List A) × Place). Ok (x.0.0 ∷ x.0.1, x.1)) y h in
      let a = bound (read d p) (λ (a : A × Place). each_at read ds a.1 >>= λ (b : List A × Place). Ok ((a.0, b.0), b.1)) m.first m.was in
      let b = bound (each_at read ds a.first.1) (λ (b : List A × Place). Ok ((a.first.0, b.0), b.1)) m.first a.next in
      let parts = same_ok (Ok ((a.first.0, b.first.0), b.first.1)) ((a.first.0, b.first.0), b.first.1) m.first (refl {a = Ok ((a.first.0, b.first.0), b.first.1)}) b.next in
      let all = same_ok (Ok (m.first.0.0 ∷ m.first.0.1, m.first.1)) (m.first.0.0 ∷ m.first.0.1, m.first.1) y (refl {a = Ok (m.first.0.0 ∷ m.first.0.1, m.first.1)}) m.next in
      let here : EachFits Q (d ∷ ds) (a.first.0 ∷ b.first.0) = (one d p a.first a.was, each_keeps ds a.first.1 b.first b.was) in
      subst (λ (z : List A × Place). EachFits Q (d ∷ ds) z.0) {x = (m.first.0.0 ∷ m.first.0.1, m.first.1)} all
      (subst (λ (x : (A × List A) × Place). EachFits Q (d ∷ ds) (x.0.0 ∷ x.0.1)) {x = ((a.first.0, b.first.0), b.first.1)} parts here)

-- ---- origins

-- one of so many origins, or that of a hole
abbrev pub IsKnown : ℕ → ℕ → Type 0
IsKnown entries origin = (origin < entries) ⊎ (origin ≡ no_origin)

-- the rule of an origin
known_by : (entries : ℕ) (places : List ℕ) (attrs : List Attr) (row : List Val) (origin : ℕ) → may_be_slot entries places attrs row origin ≡ true → IsKnown entries origin
known_by entries places attrs row origin may = by (nat_lt origin entries) refl may
  where
    by : (b : Bool) → nat_lt origin entries ≡ b → (b || (nat_eq origin no_origin && are_of_hole places 0 attrs row)) ≡ true → IsKnown entries origin
    by true e k = inl (ltb-true origin entries e)
    by false e k = inr (eqb-true origin no_origin (and_parts (nat_eq origin no_origin) (are_of_hole places 0 attrs row) k).0)

module _ (entries : ℕ) (places : List ℕ) (attrs : List Attr) where
  -- an origin that keeps the rule beside a row
  abbrev MayStand : List Val → ℕ → Type 0
  MayStand row origin = may_be_slot entries places attrs row origin ≡ true

  -- origins that keep the rule beside these rows are as many, and known
  all_known : (rows : List (List Val)) (origins : List ℕ) → EachFits MayStand rows origins → IsColumn (IsKnown entries) (length rows) origins
  all_known [] [] may = record { many = refl; fits = All-nil (IsKnown entries) }
  all_known [] (o ∷ origins) may = absurd may
  all_known (r ∷ rows) [] may = absurd may
  all_known (r ∷ rows) (o ∷ origins) may =
      let rest = all_known rows origins may.1 in
      record { many = ap suc rest.many; fits = All-cons (IsKnown entries) o origins (known_by entries places attrs r o may.0) rest.fits }

  -- so it is of those that were read
  read_known : (rows : List (List Val)) (bytes origins : List ℕ) → slot_origins_in entries places attrs rows bytes ≡ Ok origins → IsColumn (IsKnown entries) (length rows) origins
  unfolding slot_origins_in slot_origin_at
  read_known rows bytes origins found =
      let was = whole_keeps (each_at (slot_origin_at entries places attrs) rows) (place bytes 0) origins found in
      let each = each_keeps (slot_origin_at entries places attrs) MayStand (λ row p y h. ruled_keeps (may_be_slot entries places attrs row) (number_at 4) p y h) rows (place bytes 0) was.0 was.1 in
      all_known rows origins (subst (EachFits MayStand rows) was.2 each)

-- the origins of a tile that was read are so many, and known
pub origins_known : (consolidated : Bool) (entries : ℕ) (places : List ℕ) (attrs : List Attr) (count : ℕ) (rows : List (List Val)) (ranges : List Ranged) (origins : List ℕ) → 1 ≤ entries → length rows ≡ count
    → slot_origins_if consolidated entries places attrs count rows ranges ≡ Ok origins → IsColumn (IsKnown entries) count origins
origins_known true entries places attrs count rows ranges origins some many found =
    subst (λ (n : ℕ). IsColumn (IsKnown entries) n origins) many
    (read_known entries places attrs rows (bytes_of ranges part.Origin) origins (part_ok ranges part.Origin (slot_origins_in entries places attrs rows (bytes_of ranges part.Origin)) origins found))
origins_known false entries places attrs count rows ranges origins some many found =
    let is : replicate count 0 ≡ origins = cc in
    subst (λ (os : List ℕ). IsColumn (IsKnown entries) count os) is (record { many = length-replicate count 0; fits = All-replicate (IsKnown entries) count 0 (inl (omega (arith, some))) })

-- those of an ordinary fragment are the first
pub origins_first : (consolidated : Bool) (entries : ℕ) (places : List ℕ) (attrs : List Attr) (count : ℕ) (rows : List (List Val)) (ranges : List Ranged) (origins : List ℕ) → consolidated ≡ false
    → slot_origins_if consolidated entries places attrs count rows ranges ≡ Ok origins → All (λ (o : ℕ). o ≡ 0) origins
origins_first true entries places attrs count rows ranges origins plain found = absurd (cc)
origins_first false entries places attrs count rows ranges origins plain found =
    let is : replicate count 0 ≡ origins = cc in
    subst (λ (os : List ℕ). All (λ (o : ℕ). o ≡ 0) os) is (All-replicate (λ (o : ℕ). o ≡ 0) count 0 refl)
