-- The text of a `.vac`: the names of a consolidation's sources are names that a `.vac` may have, and what is written of them is read again.
use Rattle.std.proofs.Common.{◌≡◌, ℕ, ◌+◌, ◌-◌, ◌<◌, ◌≤◌, ◌^◌, Bool, true, false, cond, ◌&&◌, ◌||◌, inl, inr, ◌⊎◌, List, [], ◌∷◌, ◌++◌, length, Result, Ok, Err, refl, sym, ◌∙◌, ap, subst, arith}
use Rattle.std.specs.Prelude.{Contains, slice_index_or, nat_eq, filter}
use Rattle.std.specs.BTreeSet.{insert_key}
use Rattle.std.specs.List.{fold, list_any, flat_map, AllByRecursion}
use Rattle.std.specs.List.Sorted.{IsStrictlySortedBy}
use Rattle.std.specs.Ordering.{is_lt}
use Rattle.std.specs.declared.cmp.Ordering.TheVariants.{Less}
use Rattle.std.proofs.lemmas.List.{length-append}
use Rattle.std.proofs.lemmas.Bool.{and_parts, cond-false, ne_eqb}
use Rattle.ts_base.specs.declared.keys.FragKey.{FragKey}
use Rattle.ts_base.specs.Keys.{frag_cmp, frag_eq}
use Rattle.ts_base.specs.Exact.{frag_total}
use Rattle.ts_wire.specs.Exact.{InTurn}
use Rattle.ts_wire.specs.declared.faults.ReadFault.TheVariants as fault
use Rattle.ts_commit.specs.declared.vacs.VacOf.{VacOf}
use Rattle.ts_commit.specs.Selections.{in_order, is_among, names_merged}
use Rattle.ts_commit.specs.Vacs.{AreNames, FitsName, follows, names_of, vac_object}
use Rattle.ts_commit.proofs.LineLaws.{names_only}
use Rattle.ts_commit.proofs.Sets.{among_merged}
use Rattle.ts_model.proofs.KeyLemmas.{frag_itself, frag_same}
use Rattle.ts_model.proofs.ListLemmas.{Contains-nil, Contains-here, Contains-there}
use Rattle.ts_model.proofs.Members.{any_member, member_any}
use Rattle.ts_model.proofs.MergedPieces.{put_ascends}
use Rattle.ts_law.specs.Stands.{HasName}

-- ---- what is written is read again

pub names_again : (names : List FragKey) → AreNames names → length (vac_object names) < 2 ^ 64 → names_of (vac_object names) ≡ Ok names
names_again names are few = by (names_of (vac_object names)) refl
  where
    by : (r : Result (List FragKey) ℕ) → names_of (vac_object names) ≡ r → r ≡ Ok names
    by (Ok found) e = ap Ok (names_only (λ (x : List FragKey). x) (vac_object names) (Ok found) few e names are refl)
    by (Err at) e = absurd (names_only (λ (x : List FragKey). x) (vac_object names) (Err (fault.Damaged (record { at = at }))) few e names are refl)

-- ---- names that ascend

-- an item is the last behind others
last_or : (front : List FragKey) (f d : FragKey) → slice_index_or (front ++ f ∷ []) (length front) d ≡ f
last_or [] f d = refl
last_or (x ∷ front) f d = last_or front f d

-- a name that is above another may stand behind it
follows_last : (front : List FragKey) (f g : FragKey) → frag_cmp f g ≡ Less → follows (front ++ f ∷ []) g ≡ true
follows_last front f g less =
    ap (λ k. cond (nat_eq k 0) true (is_lt (frag_cmp (slice_index_or (front ++ f ∷ []) (k - 1) g) g))) (length-append front (f ∷ []))
    ∙ cond-false (nat_eq (length front + 1) 0) true (is_lt (frag_cmp (slice_index_or (front ++ f ∷ []) (length front + 1 - 1) g) g)) (ne_eqb (length front + 1) 0 (λ none. omega (arith, none)))
    ∙ ap (λ k. is_lt (frag_cmp (slice_index_or (front ++ f ∷ []) k g) g)) at_last ∙ ap (λ x. is_lt (frag_cmp x g)) (last_or front f g) ∙ ap is_lt less
  where
    at_last : length front + 1 - 1 ≡ length front
    at_last = omega arith

-- names that ascend behind another are read in turn
in_turn_from : (front : List FragKey) (f : FragKey) (fs : List FragKey) → AllByRecursion (λ g. frag_cmp f g ≡ Less) fs → IsStrictlySortedBy frag_cmp fs → ((g : FragKey) → Contains fs g → HasName g) → InTurn FitsName (front ++ f ∷ []) fs
unfolding IsStrictlySortedBy
in_turn_from front f [] above up named = tt
in_turn_from front f (g ∷ gs) above up named =
    let name = named g (Contains-here g gs) in
    (record { spelled = name.0; fits = name.1; ascends = follows_last front f g above.0 }, in_turn_from (front ++ f ∷ []) g gs up.0 up.1 (λ x at. named x (Contains-there g gs x at)))

-- names that ascend, of which there is one, are names that a `.vac` may have
are_names : (names : List FragKey) → 1 ≤ length names → IsStrictlySortedBy frag_cmp names → ((g : FragKey) → Contains names g → HasName g) → AreNames names
unfolding IsStrictlySortedBy
are_names [] some up named = absurd (omega (arith, some))
are_names (f ∷ fs) some up named =
    let name = named f (Contains-here f fs) in
    record { some = some; each = (record { spelled = name.0; fits = name.1; ascends = refl }, in_turn_from [] f fs up.0 up.1 (λ x at. named x (Contains-there f fs x at))) }

-- ---- the names of a consolidation

all_ascend : (fs more : List FragKey) → IsStrictlySortedBy frag_cmp fs → IsStrictlySortedBy frag_cmp (fold (insert_key frag_cmp) fs more)
all_ascend fs [] up = up
all_ascend fs (f ∷ more) up = all_ascend (insert_key frag_cmp fs f) more (put_ascends frag_cmp frag_total fs f up)

none_ascend : IsStrictlySortedBy frag_cmp []
unfolding IsStrictlySortedBy
none_ascend = tt

order_ascends : (fs : List FragKey) → IsStrictlySortedBy frag_cmp (in_order fs)
order_ascends fs = all_ascend [] fs none_ascend

-- a member is among
pub among_of : (fs : List FragKey) (f : FragKey) → Contains fs f → is_among f fs ≡ true
among_of fs f at = any_member (frag_eq f) fs f at (frag_itself f)

-- what is among is a member
pub of_among : (fs : List FragKey) (f : FragKey) → is_among f fs ≡ true → Contains fs f
of_among fs f among = let one = member_any (frag_eq f) fs among in subst (Contains fs) (sym (frag_same f one.0 one.2)) one.1

module _ (vacs : List VacOf) (sources : List FragKey) where
  -- a name is that of a source, or the `.vac` of a source names it
  pub named_cases : (f : FragKey) → Contains (names_merged vacs sources) f → Contains sources f ⊎ ((v : VacOf) × Contains vacs v × Contains sources v.frag × Contains v.names f)
  named_cases f at = by (is_among f sources) refl (sym (among_merged f vacs sources) ∙ among_of (names_merged vacs sources) f at)
    where
      by : (b : Bool) → is_among f sources ≡ b → b || list_any (λ v. is_among v.frag sources && is_among f v.names) vacs ≡ true
          → Contains sources f ⊎ ((v : VacOf) × Contains vacs v × Contains sources v.frag × Contains v.names f)
      by true own e = inl (of_among sources f own)
      by false other e =
          let v = member_any (λ v. is_among v.frag sources && is_among f v.names) vacs e in
          let tests = and_parts (is_among (v.0).frag sources) (is_among f (v.0).names) v.2 in
          inr (v.0, v.1, of_among sources (v.0).frag tests.0, of_among (v.0).names f tests.1)

  -- each source is one of the names
  pub source_named : (f : FragKey) → Contains sources f → Contains (names_merged vacs sources) f
  source_named f at = of_among (names_merged vacs sources) f (among_merged f vacs sources ∙ ap (λ b. b || list_any (λ v. is_among v.frag sources && is_among f v.names) vacs) (among_of sources f at))

  -- where the sources and what their `.vac` objects name have names with a spelling, these are names that a `.vac` may have
  pub merged_names : (f : FragKey) → Contains sources f → ((x : FragKey) → Contains sources x → HasName x) → ((v : VacOf) (x : FragKey) → Contains vacs v → Contains v.names x → HasName x) → AreNames (names_merged vacs sources)
  merged_names f first named others =
      are_names (names_merged vacs sources) (some (names_merged vacs sources) (source_named f first)) (order_ascends (sources ++ flat_map (λ v. v.names) (filter (λ v. is_among v.frag sources) vacs)))
      (λ x at. elim (named_cases x at) [ inl own ↦ named x own | inr (v, there, source, names) ↦ others v x there names ])
    where
      some : (fs : List FragKey) → Contains fs f → 1 ≤ length fs
      some [] at = absurd (Contains-nil f at)
      some (x ∷ xs) at = omega arith
