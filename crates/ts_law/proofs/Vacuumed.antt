-- What is gone once all names are that a vacuum removes: all that it found of each fragment, and each `.vac` that it got.
use Rattle.std.proofs.Common.{◌≡◌, ℕ, Bool, true, false, cond, not, inl, inr, arith, suc, List, [], ◌∷◌, ◌++◌, Some, length, refl, sym, ◌∙◌, ap, subst}
use Rattle.std.specs.Prelude.{Contains, IsTrue, filter, slice_get}
use Rattle.std.proofs.lemmas.List.Elements.{Contains-append_left, Contains-append_right}
use Rattle.ts_base.specs.declared.keys.FragKey.{FragKey}
use Rattle.ts_base.specs.declared.names.Name.{Name}
use Rattle.ts_base.specs.declared.names.Prefix.TheVariants.{Commits}
use Rattle.ts_base.specs.Held.{Held}
use Rattle.ts_base.specs.Names.{wrt_of}
use Rattle.ts_store.specs.Calls.{names_under}
use Rattle.ts_commit.specs.declared.vacs.VacOf.{VacOf}
use Rattle.ts_commit.specs.Selections.{is_among, removal_set}
use Rattle.ts_model.specs.declared.states.Sweep.{Sweep}
use Rattle.ts_model.specs.declared.commands.Command.TheVariants.{Vacuum}
use Rattle.ts_model.specs.declared.commands.Job.{Job}
use Rattle.ts_model.specs.Deeds.{History}
use Rattle.ts_model.specs.States.{committed_in, counting_in, names_of_all, names_of_one, names_removed, vac_in, vac_of, vacs_beside, where_among, with_vac_in, wrt_in}
use Rattle.ts_model.specs.Told.{Told, held_told}
use Rattle.ts_model.proofs.ListLemmas.{Contains-cons, Contains-filter, Contains-filter_map, Contains-here, Contains-nil, filter-Contains}
use Rattle.ts_law.specs.Ends.{AreAllVacs, FindsSchema, IsGone, IsSweptAway, IsVacuumed, ListedAt}
use Rattle.ts_law.specs.Stands.{IsCommitted}
use Rattle.ts_law.specs.Swept.{EachParts, ListsPartsOf, sweep_over}
use Rattle.ts_law.proofs.Fetches.{Contains-map}
use Rattle.ts_law.proofs.HeldLemmas.{listed_from_Holds}
use Rattle.ts_law.proofs.VacTexts.{among_of, of_among}
use Rattle.std.specs.FinMap as map

-- ---- names

-- an object is named where its fragment is one of these
where_among_has : (frags : List FragKey) (object : FragKey → Name) (f : FragKey) → Contains frags f → Contains (where_among frags object f) (object f)
where_among_has frags object f at = subst (λ b. Contains (cond b (object f ∷ []) []) (object f)) (sym (among_of frags f at)) (Contains-here (object f) [])

-- a committed fragment is listed
pub committed_listed : (m : Held) (f : FragKey) → IsCommitted m f → Contains (committed_in (names_under Commits m)) f
committed_listed m f committed = Contains-filter_map wrt_in (names_under Commits m) (wrt_of f) f (listed_from_Holds Commits m (wrt_of f) committed refl) refl

-- a fragment with a `.vac` is listed
vac_listed : (m : Held) (f : FragKey) → IsTrue (map.contains_key m (vac_of f)) → Contains (with_vac_in (names_under Commits m)) f
vac_listed m f held = Contains-filter_map vac_in (names_under Commits m) (vac_of f) f (listed_from_Holds Commits m (vac_of f) held refl) refl

-- what a vacuum removes of the fragments of a list, for a vacuum that found this
module _ (s : Sweep) where
  wrt_of_one : (f : FragKey) (parts : List Name) → Contains s.committed f → Contains (names_of_one s f parts) (wrt_of f)
  wrt_of_one f parts at = Contains-append_left (where_among s.committed wrt_of f) (parts ++ where_among s.with_vac vac_of f) (wrt_of f) (where_among_has s.committed wrt_of f at)

  part_of_one : (f : FragKey) (parts : List Name) (n : Name) → Contains parts n → Contains (names_of_one s f parts) n
  part_of_one f parts n at =
      Contains-append_right (where_among s.committed wrt_of f) (parts ++ where_among s.with_vac vac_of f) n (Contains-append_left parts (where_among s.with_vac vac_of f) n at)

  vac_of_one : (f : FragKey) (parts : List Name) → Contains s.with_vac f → Contains (names_of_one s f parts) (vac_of f)
  vac_of_one f parts at =
      Contains-append_right (where_among s.committed wrt_of f) (parts ++ where_among s.with_vac vac_of f) (vac_of f)
      (Contains-append_right parts (where_among s.with_vac vac_of f) (vac_of f) (where_among_has s.with_vac vac_of f at))

module _ (opening : Held) (told : List Told) (number : ℕ) (before : List Told) (listing : Told) where
  -- what was held as the commits were listed
  abbrev then : Held
  then = held_told opening before

  -- what a vacuum found that has these `.vac` objects
  abbrev found_by : List VacOf → Sweep
  found_by vacs = sweep_over (names_under Commits then) vacs

  module _ (vacs : List VacOf) where
    -- where what it removes of one fragment is gone, all that it found of the fragment is
    one_swept : (f : FragKey) (parts : List Name) → ListsPartsOf opening told number before listing f parts → ((n : Name) → Contains (names_of_one (found_by vacs) f parts) n → IsGone opening told number n)
        → IsSweptAway opening told number before listing f
    one_swept f parts are gone = record {
      commit = λ committed. gone (wrt_of f) (wrt_of_one (found_by vacs) f parts (committed_listed then f committed));
      lists = are.lists;
      each_part = λ n at. gone n (part_of_one (found_by vacs) f parts n (subst (λ ns. Contains ns n) (sym are.names_are) at));
      own_vac = λ held. gone (vac_of f) (vac_of_one (found_by vacs) f parts (vac_listed then f held));
    }

    -- and so of each
    pub all_swept : (set : List FragKey) (listed : List (List Name)) → EachParts opening told number before listing set listed
        → ((n : Name) → Contains (names_of_all (found_by vacs) set listed) n → IsGone opening told number n) → (f : FragKey) → Contains set f → IsSweptAway opening told number before listing f
    all_swept [] listed each gone f at = absurd (Contains-nil f at)
    all_swept (g ∷ set) [] each gone f at = absurd each
    all_swept (g ∷ set) (parts ∷ listed) each gone f at = elim (Contains-cons g set f at) [
      | inl same ↦ subst (IsSweptAway opening told number before listing) same
          (one_swept g parts each.0 (λ n has. gone n (Contains-append_left (names_of_one (found_by vacs) g parts) (names_of_all (found_by vacs) set listed) n has)))
      | inr later ↦ all_swept set listed each.1 (λ n has. gone n (Contains-append_right (names_of_one (found_by vacs) g parts) (names_of_all (found_by vacs) set listed) n has)) f later
    ]

    -- a `.vac` that counts was held
    counting_has_vac : AreAllVacs then vacs → (v : VacOf) → Contains vacs v → Contains (with_vac_in (names_under Commits then)) v.frag
    counting_has_vac all v at =
        (filter-Contains (λ f. is_among f (committed_in (names_under Commits then))) (with_vac_in (names_under Commits then)) v.frag (subst (λ fs. Contains fs v.frag) all.frags (Contains-map (λ w. w.frag) vacs v at))).0

    -- the `.vac` of a fragment of the set is removed with the fragment
    vac_among : (set : List FragKey) (listed : List (List Name)) → EachParts opening told number before listing set listed → (f : FragKey) → Contains set f → Contains (with_vac_in (names_under Commits then)) f
        → Contains (names_of_all (found_by vacs) set listed) (vac_of f)
    vac_among [] listed each f at has = absurd (Contains-nil f at)
    vac_among (g ∷ set) [] each f at has = absurd each
    vac_among (g ∷ set) (parts ∷ listed) each f at has = elim (Contains-cons g set f at) [
      | inl same ↦ Contains-append_left (names_of_one (found_by vacs) g parts) (names_of_all (found_by vacs) set listed) (vac_of f)
          (subst (λ x. Contains (names_of_one (found_by vacs) x parts) (vac_of f)) (sym same) (vac_of_one (found_by vacs) f parts has))
      | inr later ↦ Contains-append_right (names_of_one (found_by vacs) g parts) (names_of_all (found_by vacs) set listed) (vac_of f) (vac_among set listed each.1 f later has)
    ]

    -- each `.vac` that it got is one of the names
    pub vac_removed : (set : List FragKey) (listed : List (List Name)) → AreAllVacs then vacs → EachParts opening told number before listing set listed → (v : VacOf) → Contains vacs v
        → Contains (names_removed (found_by vacs) set listed) (vac_of v.frag)
    vac_removed set listed all each v at = by (is_among v.frag set) refl
      where
        by : (b : Bool) → is_among v.frag set ≡ b → Contains (names_removed (found_by vacs) set listed) (vac_of v.frag)
        by true among = Contains-append_left (names_of_all (found_by vacs) set listed) (vacs_beside vacs set) (vac_of v.frag) (vac_among set listed each v.frag (of_among set v.frag among) (counting_has_vac all v at))
        by false other =
            Contains-append_right (names_of_all (found_by vacs) set listed) (vacs_beside vacs set) (vac_of v.frag)
            (Contains-map (λ w. vac_of w.frag) (filter (λ w. not (is_among w.frag set)) vacs) v (Contains-filter (λ w. not (is_among w.frag set)) vacs v at (ap not other)))

-- ---- from places on lists

-- the parts of each fragment in turn, by the places of the fragments
pub each_of_places : (opening : Held) (told : List Told) (number : ℕ) (before : List Told) (listing : Told) (set : List FragKey) (listed : List (List Name)) → length listed ≡ length set
    → ((i : ℕ) (f : FragKey) (names : List Name) → slice_get set i ≡ Some f → slice_get listed i ≡ Some names → ListsPartsOf opening told number before listing f names) → EachParts opening told number before listing set listed
each_of_places opening told number before listing [] [] same at = tt
each_of_places opening told number before listing (f ∷ set) (names ∷ listed) same at =
    (at 0 f names refl refl, each_of_places opening told number before listing set listed (omega (arith, same)) (λ i g ns g_at ns_at. at (suc i) g ns g_at ns_at))
each_of_places opening told number before listing [] (names ∷ listed) same at = absurd (omega (arith, same))
each_of_places opening told number before listing (f ∷ set) [] same at = absurd (omega (arith, same))

-- what a vacuum found is what is in the names of a listing
pub sweep_is : (names : List Name) (s : Sweep) → s.committed ≡ committed_in names → s.with_vac ≡ with_vac_in names → s.counting ≡ counting_in names → s ≡ sweep_over names s.vacs
sweep_is names s committed with_vac counting =
    ap (λ x. record { committed = x; with_vac = s.with_vac; counting = s.counting; vacs = s.vacs }) committed
    ∙ ap (λ x. record { committed = committed_in names; with_vac = x; counting = s.counting; vacs = s.vacs }) with_vac
    ∙ ap (λ x. record { committed = committed_in names; with_vac = with_vac_in names; counting = x; vacs = s.vacs }) counting

-- a vacuum that removed each of these names is what it is to be
pub vacuumed_by : (opening : Held) (jobs : List Job) (past : History) (told : List Told) (number : ℕ) (job : Job) (commits : ListedAt told number Commits) (vacs : List VacOf) (listed : List (List Name))
    → job.command ≡ Vacuum → FindsSchema jobs past told number job → AreAllVacs (held_told opening commits.before) vacs → EachParts opening told number commits.before commits.listing (removal_set vacs) listed
    → ((n : Name) → Contains (names_removed (sweep_over (names_under Commits (held_told opening commits.before)) vacs) (removal_set vacs) listed) n → IsGone opening told number n)
    → IsVacuumed opening jobs past told number job (length (removal_set vacs))
vacuumed_by opening jobs past told number job commits vacs listed is found all each gone = record {
  vacuums = is;
  commits = commits;
  found = found;
  vacs = vacs;
  are_vacs = all;
  counted = refl;
  swept = all_swept opening told number commits.before commits.listing vacs (removal_set vacs) listed each
      (λ n has. gone n
      (Contains-append_left (names_of_all (sweep_over (names_under Commits (held_told opening commits.before)) vacs) (removal_set vacs) listed) (vacs_beside vacs (removal_set vacs)) n has));
  vacs_gone = λ v at. gone (vac_of v.frag) (vac_removed opening told number commits.before commits.listing vacs (removal_set vacs) listed all each v at);
}
