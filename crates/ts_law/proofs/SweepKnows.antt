-- What a vacuum knows leads it on: to the next `.vac`, to the parts of what they name, to its removals, and to its end.
use Rattle.std.proofs.Common.{◌≡◌, ℕ, true, false, cond, inr, List, [], length, refl, sym, ap, subst, arith}
use Rattle.std.specs.Prelude.{Contains, nat_lt}
use Rattle.std.proofs.lemmas.Bool.{ltb-false, true≢false}
use Rattle.std.proofs.lemmas.Option.{none-some}
use Rattle.ts_base.specs.declared.keys.FragKey.{FragKey}
use Rattle.ts_base.specs.declared.names.Name.{Name}
use Rattle.ts_base.specs.declared.names.Name.TheVariants as name
use Rattle.ts_base.specs.declared.names.Part.{Part}
use Rattle.ts_base.specs.declared.names.Prefix.TheVariants.{Fragment}
use Rattle.ts_base.specs.Names.{is_under, wrt_of}
use Rattle.ts_base.specs.Held.{Held}
use Rattle.ts_commit.specs.declared.vacs.VacOf.{VacOf}
use Rattle.ts_commit.specs.Selections.{is_among, removal_set}
use Rattle.ts_model.specs.declared.answers.Outcome.{Outcome}
use Rattle.ts_model.specs.declared.answers.Outcome.TheVariants as outcome
use Rattle.ts_model.specs.declared.commands.Job.{Job}
use Rattle.ts_model.specs.declared.states.State.{State}
use Rattle.ts_model.specs.declared.states.State.TheVariants as states
use Rattle.ts_model.specs.declared.states.Sweep.{Sweep}
use Rattle.ts_model.specs.declared.states.Sweeping.TheVariants as sweeping
use Rattle.ts_model.specs.Codecs.{Codec, CodecLaws, Spelled, Tracking}
use Rattle.ts_model.specs.Deeds.{History}
use Rattle.ts_model.specs.States.{listing_parts, names_removed, removing, sweeping_vacs, vac_of}
use Rattle.ts_model.specs.Told.{Told, held_told, history_told}
use Rattle.ts_model.proofs.KeyLemmas.{frag_same}
use Rattle.ts_law.specs.Kept.{Claims, Clean}
use Rattle.ts_law.specs.Stands.{IsCommitted, Names, Stands}
use Rattle.ts_law.specs.Sweeps.{GetsNames, ListsAll, SweepsFrom, Vacuuming}
use Rattle.ts_law.specs.Swept.{ListsPartsOf}
use Rattle.ts_law.proofs.Fetches.{one_head}
use Rattle.ts_law.proofs.HeldLemmas.{Holds-from_get, Holds-from_listed, bytes_there}
use Rattle.ts_law.proofs.ReadSteps.{as_many}
use Rattle.ts_law.proofs.Removals.{covered_outside}
use Rattle.ts_law.proofs.SweepLists.{ArePartsOf, begins_sweeping}
use Rattle.ts_law.proofs.SweepSets.{set_is_named}
use Rattle.ts_law.proofs.VacTexts.{among_of}
use Rattle.ts_law.proofs.Vacuumed.{committed_listed}
use Rattle.ts_law.proofs.VacuumOver.{vacuuming_over}

-- ---- parts

-- what stands under a fragment is a part of it
part_under : (f : FragKey) (n : Name) → is_under (Fragment f) n ≡ true → (part : Part) × (n ≡ name.Part f part)
part_under f (name.Part g part) is = (part, ap (λ x. name.Part x part) (sym (frag_same f g is)))
part_under f _ is = absurd (true≢false (sym is))

-- the objects of a fragment that a job listed are parts of it
parts_of : (opening : Held) (seen : List Told) (number : ℕ) (before : List Told) (listing : Told) (f : FragKey) (names : List Name) → ListsPartsOf opening seen number before listing f names → ArePartsOf f names
parts_of opening seen number before listing f names is n at =
    part_under f n (Holds-from_listed (Fragment f) (held_told opening ((is.lists).parts).before) n (subst (λ ns. Contains ns n) is.names_are at)).1

-- ---- what a vacuum knows leads on

module _ {F : Type 0} (codec : Codec F) (spelled : Spelled) (tracks : Tracking F) (laws : CodecLaws codec spelled tracks)
    (opening : Held) (past : History) (jobs : List Job) (seen : List Told) (m : Held) (number : ℕ) (job : Job) where
  -- the history now
  abbrev now : History
  now = history_told jobs past seen

  -- what a state claims
  abbrev Claimed : State F → Type 0
  Claimed x = Claims codec spelled tracks opening past jobs seen m number job x

  -- a vacuum that removes from a place on claims what is true
  pub vacuuming_claims : (names : List Name) (next : ℕ) (end : Outcome) → Vacuuming spelled opening past jobs seen m number job names next end → Claimed (removing names next end)
  vacuuming_claims names next end is =
      elim (nat_lt next (length names)) as (λ b. nat_lt next (length names) ≡ b → Claimed (cond b (states.Removes names next end) (states.Over end))) [
        | true ↦ λ _. inr is
        | false ↦ λ none.
            subst (λ o. Claimed (states.Over o)) (sym is.ends) ((is.clean).undone, vacuuming_over spelled opening past jobs seen m number job names next end is none)
      ] refl

  module _ (clean : Clean opening past jobs seen m job) (stands : Stands spelled m now) (s : Sweep) where
    module _ (listed : List (List Name)) (all : ListsAll spelled opening past jobs seen m number job s (removal_set s.vacs) listed) where
      -- what it found at its listing of the commits
      abbrev from : SweepsFrom spelled opening past jobs seen m number job s
      from = (all.gets).from

      -- what was held then
      abbrev then : Held
      then = held_told opening ((from.since).commits).before

      -- what was committed is committed still
      committed_still : (f : FragKey) → IsCommitted then f → IsCommitted m f
      committed_still f committed = let found = bytes_there then (wrt_of f) committed in Holds-from_get m (wrt_of f) found.0 ((from.since).held (wrt_of f) found.0 tt found.1)

      -- what a `.vac` named it names still
      each_still : (v : VacOf) → Contains s.vacs v → IsCommitted m v.frag × Names m v.frag v.names
      each_still v at =
          let own = ((from.is_found).are_vacs).each v at in
          (committed_still v.frag own.0, record { bytes = (own.1).bytes; held = (from.since).held (vac_of v.frag) (own.1).bytes tt (own.1).held; reads = (own.1).reads })

      -- a fragment of the set that is committed was committed then, and listed so
      was_listed : (f : FragKey) → Contains (removal_set s.vacs) f → IsCommitted m f → is_among f s.committed ≡ true
      was_listed f at committed =
          among_of s.committed f (subst (λ fs. Contains fs f) (sym (from.is_found).committed_are)
          (committed_listed then f (from.old f ((from.spent).named f (set_is_named then s.counting s.vacs (from.is_found).are_vacs f at)) committed)))

      -- it begins to remove
      begins : length listed ≡ length (removal_set s.vacs) → Vacuuming spelled opening past jobs seen m number job (names_removed s (removal_set s.vacs) listed) 0 (outcome.Vacuumed (length (removal_set s.vacs)))
      begins long = record {
        clean = clean;
        vacuums = from.vacuums;
        commits = (from.since).commits;
        sweep = s;
        is_found = from.is_found;
        all_vacs = all.all_vacs;
        found = (all.gets).found;
        listed = listed;
        all_listed = long;
        parts = all.parts;
        names_are = refl;
        ends = refl;
        spent = from.spent;
        covered = covered_outside spelled m now (one_head codec spelled tracks laws now m) stands s.vacs each_still;
        sweeping = begins_sweeping s m (removal_set s.vacs) listed long was_listed (λ i f names at there. parts_of opening seen number (from.since).commits.before (from.since).commits.listing f names (all.parts i f names at there));
        gone = λ i n before at. absurd (omega (arith, before));
      }

      -- it lists the objects of the next fragment, or goes on to its removals
      listing_on : Claimed (listing_parts s (removal_set s.vacs) listed)
      listing_on =
          elim (nat_lt (length listed) (length (removal_set s.vacs))) as (λ b. nat_lt (length listed) (length (removal_set s.vacs)) ≡ b → Claimed (cond b (states.Sweeps (sweeping.ListsParts s (removal_set s.vacs) listed))
          (removing (names_removed s (removal_set s.vacs) listed) 0 (outcome.Vacuumed (length (removal_set s.vacs)))))) [
            | true ↦ λ _. (clean, all)
            | false ↦ λ end.
                let most = all.so_many in
                let least = ltb-false (length listed) (length (removal_set s.vacs)) end in
                vacuuming_claims (names_removed s (removal_set s.vacs) listed) 0 (outcome.Vacuumed (length (removal_set s.vacs))) (begins (omega (arith, most, least)))
          ] refl

    -- the same of a set that is its own
    pub listing_claims : (set : List FragKey) (listed : List (List Name)) → ListsAll spelled opening past jobs seen m number job s set listed → Claimed (listing_parts s set listed)
    listing_claims set listed all =
        let Own : List FragKey → Type 0 = λ fs. ListsAll spelled opening past jobs seen m number job s fs listed in
        subst (λ fs. Claimed (listing_parts s fs listed)) (sym all.set_is) (listing_on listed (subst Own all.set_is all))

    -- it gets the next `.vac`, or goes on to the parts of what they name
    pub sweeping_claims : GetsNames spelled opening past jobs seen m number job s → Claimed (sweeping_vacs s)
    sweeping_claims gets =
        elim (nat_lt (length s.vacs) (length s.counting)) as (λ b. nat_lt (length s.vacs) (length s.counting) ≡ b → Claimed (cond b (states.Sweeps (sweeping.GetsVacs s)) (listing_parts s (removal_set s.vacs) []))) [
          | true ↦ λ _. (clean, gets)
          | false ↦ λ end. listing_claims (removal_set s.vacs) [] (record {
            gets = gets;
            all_vacs = as_many (λ v. v.frag) s.vacs s.counting (((gets.from).is_found).are_vacs).frags (ltb-false (length s.vacs) (length s.counting) end);
            set_is = refl;
            so_many = omega arith;
            parts = λ i f names at there. absurd (none-some names there);
          })
        ] refl
