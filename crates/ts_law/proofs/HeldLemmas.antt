-- What is held after a put and after a removal, and which names a listing tells.
use Rattle.std.proofs.Common.{◌≡◌, ℕ, Bool, true, false, cond, ◌⊎◌, inl, inr, List, Option, Some, None, refl, sym, ◌∙◌, ap, subst}
use Rattle.std.specs.Prelude.{Contains, IsTrue}
use Rattle.std.specs.List.{list_any}
use Rattle.std.specs.Ordering.{eq_by_cmp}
use Rattle.std.specs.Option.{is_some}
use Rattle.std.specs.FinMap as map
use Rattle.std.proofs.lemmas.Bool.{true≢false, cond-true, cond-false}
use Rattle.std.proofs.lemmas.Option.{none-some}
use Rattle.std.proofs.lemmas.Cmp.{eq_by_cmp_equiv}
use Rattle.std.proofs.lemmas.List.Folds.{Any-from_list_any}
use Rattle.std.proofs.lemmas.Map.Views.{list_any-from_Contains}
use Rattle.ts_base.specs.declared.names.Name.{Name}
use Rattle.ts_base.specs.declared.names.Prefix.{Prefix}
use Rattle.ts_base.specs.Names.{name_cmp, is_under}
use Rattle.ts_base.specs.Held.{Held}
use Rattle.ts_base.specs.Exact.{name_total, name_exact}
use Rattle.ts_store.specs.Calls.{after, names_under, took_effect}
use Rattle.ts_store.specs.declared.fate.Fate.{Fate}
use Rattle.ts_store.specs.declared.call.Call.TheVariants as call
use Rattle.ts_model.proofs.ListLemmas.{Contains-filter, filter-Contains}
use Rattle.ts_model.proofs.KeyLemmas.{same_from_tie, tie_itself, no_tie}

-- ---- a put

pub get_put : (m : Held) (n : Name) (bytes : List ℕ) → map.get (map.insert m n bytes) n ≡ Some bytes
get_put m n bytes = map.get-insert name_total m n bytes n ∙ cond-true _ _ _ (tie_itself name_total name_exact n)

pub get_apart : (m : Held) (n : Name) (bytes : List ℕ) (q : Name) → (q ≡ n → ⊥) → map.get (map.insert m n bytes) q ≡ map.get m q
get_apart m n bytes q apart = map.get-insert name_total m n bytes q ∙ cond-false _ _ _ (no_tie name_total name_exact q n apart)

-- an object is held
abbrev pub Holds : Held → Name → Type 0
Holds m n = IsTrue (map.contains_key m n)

pub Holds-from_get : (m : Held) (n : Name) (bytes : List ℕ) → map.get m n ≡ Some bytes → Holds m n
Holds-from_get m n bytes e = ap is_some e

-- ---- a listing

pub listed_from_Holds : (p : Prefix) (m : Held) (n : Name) → Holds m n → is_under p n ≡ true → Contains (names_under p m) n
listed_from_Holds p m n held under = Contains-filter (is_under p) (map.keys m) n (member (map.keys m) (sym (map.contains_key-keys m n) ∙ held)) under
  where
    member : (ns : List Name) → list_any (eq_by_cmp name_cmp n) ns ≡ true → Contains ns n
    member ns e =
        let some = Any-from_list_any (eq_by_cmp name_cmp n) ns e in
        let same : n ≡ some.1 = same_from_tie name_total name_exact n some.1 some.4 in
        subst (λ q. Contains ns q) (sym same) (some.0, some.2, some.3)

pub Holds-from_listed : (p : Prefix) (m : Held) (n : Name) → Contains (names_under p m) n → Holds m n × (is_under p n ≡ true)
Holds-from_listed p m n at =
    let parts = filter-Contains (is_under p) (map.keys m) n at in
    (map.contains_key-keys m n ∙ list_any-from_Contains (eq_by_cmp_equiv name_total) n (map.keys m) parts.0, parts.1)

-- what is held after a put was held before it, or is what was put
pub held_before : (m : Held) (n : Name) (bytes : List ℕ) (q : Name) → Holds (map.insert m n bytes) q → Holds m q ⊎ (q ≡ n)
held_before m n bytes q held = elim (eq_by_cmp name_cmp q n) as (λ b. eq_by_cmp name_cmp q n ≡ b → is_some (cond b (Some bytes) (map.get m q)) ≡ true → Holds m q ⊎ (q ≡ n)) [
  | true ↦ λ tie _. inr (same_from_tie name_total name_exact q n tie)
  | false ↦ λ _ before. inl before
] refl (ap is_some (sym (map.get-insert name_total m n bytes q)) ∙ held)

-- what is held stays when another object is put
pub stays_held : (m : Held) (n : Name) (bytes : List ℕ) (q : Name) (kept : List ℕ) → (Holds m n → ⊥) → map.get m q ≡ Some kept → map.get (map.insert m n bytes) q ≡ Some kept
stays_held m n bytes q kept free e = get_apart m n bytes q (λ same. free (subst (Holds m) same (Holds-from_get m q kept e))) ∙ e

-- a held name has bytes
pub bytes_there : (m : Held) (n : Name) → Holds m n → (bytes : List ℕ) × (map.get m n ≡ Some bytes)
bytes_there m n held = by (map.get m n) refl
  where
    by : (o : Option (List ℕ)) → map.get m n ≡ o → (bytes : List ℕ) × (map.get m n ≡ Some bytes)
    by None none = absurd (true≢false (sym held ∙ ap is_some none))
    by (Some bytes) is = (bytes, is)

pub holds_stays : (m : Held) (n : Name) (bytes : List ℕ) (q : Name) → (Holds m n → ⊥) → Holds m q → Holds (map.insert m n bytes) q
holds_stays m n bytes q free held = elim (map.get m q) as (λ o. map.get m q ≡ o → Holds (map.insert m n bytes) q) [
  | None ↦ λ none. absurd (true≢false (sym held ∙ ap is_some none))
  | Some kept ↦ λ e. Holds-from_get (map.insert m n bytes) q kept (stays_held m n bytes q kept free e)
] refl

-- ---- a removal

-- a choice by a test of two maps that agree on a name
pub agree : (b : Bool) (x y m : Held) (n : Name) → map.get x n ≡ map.get m n → map.get y n ≡ map.get m n → map.get (cond b x y) n ≡ map.get m n
agree true x y m n first second = first
agree false x y m n first second = second

-- a removal leaves the other objects as they were
pub removal_apart : (m : Held) (n : Name) (f : Fate) (q : Name) → (q ≡ n → ⊥) → map.get (after m (call.Remove n) f) q ≡ map.get m q
removal_apart m n f q apart = agree (took_effect f) (map.remove m n) m m q (map.get-remove name_total m n q ∙ cond-false _ _ _ (no_tie name_total name_exact q n apart)) refl

-- what is held after a removal was held before it
pub removal_before : (m : Held) (n : Name) (f : Fate) (q : Name) (bytes : List ℕ) → map.get (after m (call.Remove n) f) q ≡ Some bytes → map.get m q ≡ Some bytes
removal_before m n f q bytes held = by_effect (took_effect f) held
  where
    by_tie : (b : Bool) → cond b None (map.get m q) ≡ Some bytes → map.get m q ≡ Some bytes
    by_tie true e = absurd (none-some bytes e)
    by_tie false e = e

    by_effect : (b : Bool) → map.get (cond b (map.remove m n) m) q ≡ Some bytes → map.get m q ≡ Some bytes
    by_effect true e = by_tie _ (sym (map.get-remove name_total m n q) ∙ e)
    by_effect false e = e
