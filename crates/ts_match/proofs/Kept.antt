-- Lists of which places are kept.
use Rattle.std.proofs.Common.{◌≡◌, ℕ, zero, suc, ◌+◌, ◌<◌, ◌≤◌, ℤ, pos, Bool, true, false, not, ◌&&◌, ◌||◌, List, [], ◌∷◌, length, map, get_or, set, replicate, Some, length-set, get_or-set_same, get_or-set_other, refl, sym, ap, ◌∙◌, inl, inr, arith}
use Rattle.std.specs.Prelude.{slice_get}
use Rattle.std.proofs.lemmas.Bool.{cases_eq}
use Rattle.std.proofs.lemmas.List.{same_lists, length-map, length-replicate, get_or-map, get_or-replicate, get_or_default}
use Rattle.std.proofs.lemmas.Option.{slice_get-map, slice_get-get_or}
use Rattle.std.specs.Option.{option_map}
use Rattle.ts_base.specs.declared.heads.Version.{Version}
use Rattle.ts_base.specs.declared.values.Val.{Val}
use Rattle.ts_base.specs.declared.values.Val.TheVariants.{Int}
use Rattle.ts_cond.specs.Holds.{passes}
use Rattle.ts_cond.specs.declared.fields.Pick.{Pick}
use Rattle.ts_cond.specs.declared.fields.Pick.TheVariants.{Attr}
use Rattle.ts_cond.specs.Picks.{picked_by, val_or}
use Rattle.ts_table.specs.Tables.{HasVals, no_version, version_or}
use Rattle.ts_match.specs.declared.keeping.View.{View}
use Rattle.ts_match.specs.Keeping.{value_at, AreIntegers, AreKept, ArePicked}

-- up to a place those are kept where this holds, and the others are as they were
pub record KeptTo (here : ℕ → Bool) (old now : List Bool) (n : ℕ) : Type 0 where
  pub long : length now ≡ length old
  pub done : (i : ℕ) → i < n → get_or now i false ≡ (get_or old i false && here i)
  pub rest : (i : ℕ) → n ≤ i → get_or now i false ≡ get_or old i false

pub kept_none : (here : ℕ → Bool) (old : List Bool) → KeptTo here old old 0
kept_none here old = record { long = refl; done = λ i below. absurd (omega (arith, below)); rest = λ i above. refl }

-- one place more
pub kept_next : (here : ℕ → Bool) (old now : List Bool) (n : ℕ) (b : Bool) → n < length old → KeptTo here old now n → b ≡ (get_or now n false && here n) → KeptTo here old (set now n b) (n + 1)
kept_next here old now n b within so_far is =
    let room : n < length now = omega (arith, within, so_far.long) in
    record {
      long = length-set now n b ∙ so_far.long;
      done = λ i below. elim (cases_eq i n) as (λ _. get_or (set now n b) i false ≡ (get_or old i false && here i)) [
        | inl same ↦ rw same (get_or-set_same now n b false room ∙ is ∙ ap (λ v. v && here n) (so_far.rest n (omega arith)))
        | inr other ↦ get_or-set_other now n i b false other ∙ so_far.done i (omega (arith, below, other))
      ];
      rest = λ i above. get_or-set_other now n i b false (λ (e : i ≡ n). omega (arith, e, above)) ∙ so_far.rest i (omega (arith, above));
    }

pub kept_all : (here : ℕ → Bool) (old now : List Bool) (n : ℕ) → KeptTo here old now n → length old ≤ n → AreKept here old now
kept_all here old now n so_far all = record { long = so_far.long; each = λ i within. so_far.done i (omega (arith, within, all)) }

-- two tests that agree keep the same places
pub kept_same : (here there : ℕ → Bool) (old new : List Bool) → ((i : ℕ) → i < length old → here i ≡ there i) → AreKept here old new → AreKept there old new
kept_same here there old new same kept = record { long = kept.long; each = λ i within. kept.each i within ∙ ap (λ b. get_or old i false && b) (same i within) }

pub and_next : (k h a : Bool) → ((k && h) && a) ≡ (k && (h && a))
and_next true h a = refl
and_next false h a = refl

pub and_true : (k : Bool) → (k && true) ≡ k
and_true true = refl
and_true false = refl

pub or_next : (k h a : Bool) → ((k && not h) && not a) ≡ (k && not (h || a))
or_next true true a = refl
or_next true false a = refl
or_next false h a = refl

not_and : (k h : Bool) → (k && not (k && h)) ≡ (k && not h)
not_and true h = refl
not_and false h = refl

not_not : (h : Bool) → not (not h) ≡ h
not_not true = refl
not_not false = refl

-- those that others keep are left out
pub kept_others : (here : ℕ → Bool) (old others new : List Bool) → AreKept here old others → AreKept (λ i. not (get_or others i false)) old new → AreKept (λ i. not (here i)) old new
kept_others here old others new kept left = record {
  long = left.long;
  each = λ i within. left.each i within ∙ ap (λ b. get_or old i false && not b) (kept.each i within) ∙ not_and (get_or old i false) (here i);
}

-- those that others leave out are kept
pub kept_taken : (here : ℕ → Bool) (old others new : List Bool) → AreKept (λ i. not (here i)) old others → AreKept (λ i. not (get_or others i false)) old new → AreKept here old new
kept_taken here old others new kept left =
    kept_same (λ i. not (not (here i))) here old new (λ i within. not_not (here i)) (kept_others (λ i. not (here i)) old others new kept left)

-- of all places those are kept where the version passes
pub kept_list : (here : ℕ → Bool) (passes : Version → Bool) (versions : List Version) (old found : List Bool) → old ≡ replicate (length versions) true
    → ((i : ℕ) → i < length versions → here i ≡ passes (version_or versions i)) → AreKept here old found → found ≡ map passes versions
kept_list here passes versions old found all same kept =
    let many : length old ≡ length versions = ap length all ∙ length-replicate (length versions) true in
    let long : length found ≡ length versions = kept.long ∙ many in
    same_lists found (map passes versions) (long ∙ sym (length-map versions passes)) (λ k d within.
    let there : k < length versions = omega (arith, within, long) in
    let below : k < length old = omega (arith, there, many) in
    get_or_default found k d false within ∙ kept.each k below
    ∙ ap (λ b. b && here k) (ap (λ list. get_or list k false) all ∙ get_or-replicate (length versions) k true false there)
    ∙ same k there ∙ sym (get_or-map passes versions k no_version d there))

-- the values of an attribute are found in its column
pub attr_picked : (attr : ℕ) (versions : List Version) (column : List Val) (numbers : List ℤ) → HasVals versions attr column → map Int numbers ≡ column → ArePicked (Attr attr) versions numbers
attr_picked attr versions column numbers has are =
    let long : length numbers ≡ length versions = sym (length-map numbers Int) ∙ ap length are ∙ has.long in record {
      long = long;
      there = λ field place within.
          let below : place < length numbers = omega (arith, within, long) in
          ap (λ found. val_or found field.fill) (has.there place within ∙ ap (λ vals. slice_get vals place) (sym are) ∙ slice_get-map Int numbers place ∙ ap (option_map Int) (slice_get-get_or numbers place (pos 0) below));
    }

-- a place within a list has an item
some_there : {A : Type 0} (xs : List A) (i : ℕ) → i < length xs → (x : A) × (slice_get xs i ≡ Some x)
some_there [] i below = absurd (omega (arith, below))
some_there (x ∷ xs) zero below = (x, refl)
some_there (x ∷ xs) (suc i) below = some_there xs i (omega (arith, below))

-- those of the field at this place
pub pick_integers : (view : View) (pick : Pick) (place : ℕ) (numbers : List ℤ) → place < length view.fields.now → slice_get view.picks.now place ≡ Some pick → ArePicked pick view.cells.now numbers → AreIntegers view place numbers
unfolding value_at
pick_integers view pick place numbers below there are = record {
  long = are.long;
  there = λ i within.
      let v = version_or view.cells.now i in
      let field = some_there view.fields.now place below in
      ap (λ p. picked_by p (slice_get view.fields.now place) v.coords v.row) there ∙ ap (λ f. picked_by (Some pick) f v.coords v.row) field.1 ∙ are.there field.0 i within;
}

pub ruleset finds = (attr_picked, pick_integers)

pub ruleset steps = (kept_none, kept_next, kept_all)
