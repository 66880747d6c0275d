-- What a vacuum found stays true by the calls of others, and so does what it keeps while it removes.
use Rattle.std.proofs.Common.{◌≡◌, ℕ, List, [], ◌∷◌, ◌++◌, sym, subst}
use Rattle.std.specs.Prelude.{Contains}
use Rattle.ts_base.specs.declared.keys.FragKey.{FragKey}
use Rattle.ts_base.specs.declared.names.Name.{Name}
use Rattle.ts_base.specs.declared.names.Name.TheVariants as name
use Rattle.ts_base.specs.declared.names.Part.{Part}
use Rattle.ts_base.specs.declared.names.Prefix.TheVariants.{Commits, Fragment}
use Rattle.ts_base.specs.Held.{Held}
use Rattle.ts_commit.specs.declared.vacs.VacOf.{VacOf}
use Rattle.ts_commit.specs.Selections.{removal_set}
use Rattle.ts_model.specs.declared.answers.Outcome.{Outcome}
use Rattle.ts_model.specs.declared.commands.Job.{Job}
use Rattle.ts_model.specs.declared.states.Sweep.{Sweep}
use Rattle.ts_model.specs.declared.states.Sweeping.{Sweeping as SweepingState}
use Rattle.ts_model.specs.declared.states.Sweeping.TheVariants as sweeping
use Rattle.ts_model.specs.Codecs.{Spelled}
use Rattle.ts_model.specs.Deeds.{History, IsHistory}
use Rattle.ts_model.specs.Told.{Told, history_told}
use Rattle.ts_law.specs.Fresh.{IsSpent}
use Rattle.ts_law.specs.Kept.{Clean, SweepClaims}
use Rattle.ts_law.specs.Removals.{AreCoveredOutside}
use Rattle.ts_law.specs.Stands.{IsCommitted}
use Rattle.ts_law.specs.Steps.{Keeps}
use Rattle.ts_law.specs.Sweeps.{AreParts, GetsNames, IsSwept, ListsAll, OfCommit, OfOther, OfPart, OfVac, SweepsFrom, Vacuuming}
use Rattle.ts_law.proofs.Removals.{covered_grows}
use Rattle.ts_law.proofs.Spent.{spent_on}
use Rattle.ts_law.proofs.Stays.{finds_schema_stays, gone_stays, listed_stays, since_stays}
use Rattle.ts_law.proofs.SweepSets.{set_spent}

-- what a job listed of fragments stays
abbrev pub parts_listed_stay : (opening : Held) (seen : List Told) (e : Told) (number : ℕ) (before : List Told) (listing : Told) (set : List FragKey) (listed : List (List Name)) → AreParts opening seen number before listing set listed → AreParts opening (seen ++ e ∷ []) number before listing set listed
parts_listed_stay opening seen e number before listing set listed are = λ i f names at there.
    let is = are i f names at there in
    record { lists = record { parts = listed_stays seen e number (Fragment f) is.lists.parts; between = is.lists.between; order = is.lists.order }; names_are = is.names_are }

-- a part that is one of a fragment is so of no other
pub part_owner : (f g : FragKey) (part other : Part) → name.Part f part ≡ name.Part g other → f ≡ g
part_owner f g part other same = cc

-- a part that is swept is one of a fragment of the set
pub part_of_set : (set : List FragKey) (vacs : List VacOf) (f : FragKey) (part : Part) → IsSwept set vacs (name.Part f part) → Contains set f
part_of_set set vacs f part (OfCommit g own same) = absurd (cc)
part_of_set set vacs f part (OfPart g other own same) = subst (Contains set) (sym (part_owner f g part other same)) own
part_of_set set vacs f part (OfVac g own same) = absurd (cc)
part_of_set set vacs f part (OfOther v at same) = absurd (cc)

module _ (spelled : Spelled) (opening : Held) (past : History) (jobs : List Job) (seen : List Told) (e : Told) (m m' : Held) (id : ℕ)
    (keeps : Keeps m m' (history_told jobs past seen) (history_told jobs past (seen ++ e ∷ [])) id)
    -- nothing is committed by the call whose identifier was spent
    (none_back : (f : FragKey) → IsSpent opening past seen f.id → IsCommitted m' f → IsCommitted m f) (number : ℕ) (job : Job) where
  -- a vacuum that listed the commits goes on as it was
  abbrev pub sweeps_from_stays : (s : Sweep) → SweepsFrom spelled opening past jobs seen m number job s → SweepsFrom spelled opening past jobs (seen ++ e ∷ []) m' number job s
  sweeps_from_stays s is = record {
    vacuums = is.vacuums;
    since = since_stays spelled opening past jobs seen e m m' id keeps number is.since;
    is_found = is.is_found;
    spent = is.spent;
    old = λ f spent committed.
        let commits = is.since.commits in
        is.old f spent (none_back f (subst (λ t. IsSpent opening past t f.id) (sym commits.place) (spent_on opening past commits.before (commits.listing ∷ commits.later) f.id spent)) committed);
  }

  -- so does one that gets `.vac` objects
  abbrev pub gets_names_stays : (s : Sweep) → GetsNames spelled opening past jobs seen m number job s → GetsNames spelled opening past jobs (seen ++ e ∷ []) m' number job s
  gets_names_stays s is = record { from = sweeps_from_stays s is.from; found = finds_schema_stays past jobs seen e number job is.found }

  -- one that lists the objects of fragments
  abbrev pub lists_all_stays : (s : Sweep) (set : List FragKey) (listed : List (List Name)) → ListsAll spelled opening past jobs seen m number job s set listed → ListsAll spelled opening past jobs (seen ++ e ∷ []) m' number job s set listed
  lists_all_stays s set listed is = record {
    gets = gets_names_stays s is.gets;
    all_vacs = is.all_vacs;
    set_is = is.set_is;
    so_many = is.so_many;
    parts = parts_listed_stay opening seen e number is.gets.from.since.commits.before is.gets.from.since.commits.listing set listed is.parts;
  }

  -- what the state of a vacuum says stays true, where the job stays clean
  pub sweep_claims_stay : (Clean opening past jobs seen m job → Clean opening past jobs (seen ++ e ∷ []) m' job) → (s : SweepingState)
      → SweepClaims spelled opening past jobs seen m number job s → SweepClaims spelled opening past jobs (seen ++ e ∷ []) m' number job s
  sweep_claims_stay cleans sweeping.ListsCommits is = (cleans is.0, is.1)
  sweep_claims_stay cleans (sweeping.ListsSchemas s) is = (cleans is.0, sweeps_from_stays s is.1)
  sweep_claims_stay cleans (sweeping.GetsVacs s) is = (cleans is.0, gets_names_stays s is.1)
  sweep_claims_stay cleans (sweeping.ListsParts s set listed) is = (cleans is.0, lists_all_stays s set listed is.1)

  module _ (history : IsHistory (history_told jobs past (seen ++ e ∷ []))) (names : List Name) (next : ℕ) (end : Outcome) (is : Vacuuming spelled opening past jobs seen m number job names next end) where
    -- the history before the call
    abbrev h : History
    h = history_told jobs past seen

    -- the fragments that are to be removed
    abbrev set : List FragKey
    set = removal_set (is.sweep).vacs

    -- of these none comes back
    still : (f : FragKey) → Contains set f → IsCommitted m' f → IsCommitted m f
    still f at committed = none_back f (set_spent spelled opening past jobs seen m number job names next end is f at) committed

    -- what covers them does so on
    covered_on : AreCoveredOutside spelled (history_told jobs past (seen ++ e ∷ [])) m' set
    covered_on = subst (λ g. AreCoveredOutside spelled g m' set) (sym keeps.grows) (covered_grows spelled m m' h keeps.more set keeps.keeps (subst IsHistory keeps.grows history) still is.covered)

    -- a vacuum that removes goes on as it was
    pub vacuuming_stays : Clean opening past jobs (seen ++ e ∷ []) m' job → Vacuuming spelled opening past jobs (seen ++ e ∷ []) m' number job names next end
    vacuuming_stays clean = record {
      clean = clean;
      vacuums = is.vacuums;
      commits = listed_stays seen e number Commits is.commits;
      sweep = is.sweep;
      is_found = is.is_found;
      all_vacs = is.all_vacs;
      found = finds_schema_stays past jobs seen e number job is.found;
      listed = is.listed;
      all_listed = is.all_listed;
      parts = parts_listed_stay opening seen e number (is.commits).before (is.commits).listing set is.listed is.parts;
      names_are = is.names_are;
      ends = is.ends;
      spent = is.spent;
      covered = covered_on;
      sweeping = record {
        each = is.sweeping.each;
        led = λ i f part from at committed. is.sweeping.led i f part from at (still f (part_of_set set (is.sweep).vacs f part (is.sweeping.each i (name.Part f part) at)) committed);
        left = λ f at committed. is.sweeping.left f at (still f at committed);
      };
      gone = λ i n before at. gone_stays opening seen e number n (is.gone i n before at);
    }
