-- The listings and the gets of a vacuum: each leads to the next one, to its removals, or to its end.
use Rattle.std.proofs.Common.{◌≡◌, ℕ, false, inl, inr, List, [], ◌∷◌, ◌++◌, Some, None, length, refl, sym, ◌∙◌, ap, subst, arith}
use Rattle.std.specs.Prelude.{Contains, option_map, slice_get}
use Rattle.std.specs.FinMap as map
use Rattle.std.proofs.lemmas.List.{length_push}
use Rattle.std.proofs.lemmas.List.Elements.{Contains-push_cases}
use Rattle.std.proofs.lemmas.Option.{same_Some, slice_get_within}
use Rattle.ts_base.specs.declared.keys.FragKey.{FragKey}
use Rattle.ts_base.specs.declared.names.Name.{Name}
use Rattle.ts_base.specs.declared.names.Prefix.TheVariants.{Commits, Fragment, Schemas}
use Rattle.ts_base.specs.Held.{Held}
use Rattle.ts_store.specs.Calls.{is_no_memory, names_under}
use Rattle.ts_schema.specs.Evolutions.{schema_at}
use Rattle.ts_commit.specs.declared.vacs.VacOf.{VacOf}
use Rattle.ts_commit.specs.Vacs.{names_of}
use Rattle.ts_model.specs.declared.commands.Command.TheVariants.{Vacuum}
use Rattle.ts_model.specs.declared.commands.Job.{Job}
use Rattle.ts_model.specs.declared.states.State.{State}
use Rattle.ts_model.specs.declared.states.State.TheVariants as states
use Rattle.ts_model.specs.declared.states.Sweep.{Sweep}
use Rattle.ts_model.specs.declared.states.Sweeping.{Sweeping}
use Rattle.ts_model.specs.declared.states.Sweeping.TheVariants as sweeping
use Rattle.ts_model.specs.Codecs.{Codec, CodecLaws, Spelled, Tracking}
use Rattle.ts_model.specs.Deeds.{History, current_schema}
use Rattle.ts_model.specs.Jobs.{looked_at}
use Rattle.ts_model.specs.States.{after_swept, committed_in, counting_in, get_vac, list_commits, list_parts, list_schemas, listing_parts, on_bytes, on_names, schemas_in, sweep_of, sweep_with, sweeping_vacs, vac_of, where_swept, with_item, with_vac_in}
use Rattle.ts_model.specs.Told.{Told, after_told, held_told, history_told}
use Rattle.ts_model.proofs.ListLemmas.{Contains-nil, Contains-slice_get, slice_get_push}
use Rattle.ts_law.specs.Fresh.{AreSpent}
use Rattle.ts_law.specs.Kept.{Claims}
use Rattle.ts_law.specs.Stands.{IsCommitted, Names, Stands}
use Rattle.ts_law.specs.Steps.{Advances, Comes}
use Rattle.ts_law.specs.Sweeps.{AreParts, GetsNames, ListsAll, SweepsFrom}
use Rattle.ts_law.specs.Swept.{ListsPartsOf}
use Rattle.ts_law.proofs.Effects.{listed}
use Rattle.ts_law.proofs.HeldLemmas.{bytes_there}
use Rattle.ts_law.proofs.ListSteps.{counting_held, looked, names_lead, there_from_listed}
use Rattle.ts_law.proofs.ReadSteps.{asked_of, push_next, read_lead, whole_lead}
use Rattle.ts_law.proofs.Stays.{listed_now}
use Rattle.ts_law.proofs.SweepKnows.{listing_claims, sweeping_claims}
use Rattle.ts_law.proofs.SweepStays.{gets_names_stays, lists_all_stays, sweeps_from_stays}

module _ {F : Type 0} (codec : Codec F) (spelled : Spelled) (tracks : Tracking F) (opening : Held) (past : History) (jobs : List Job) (seen : List Told) (e : Told) (m : Held) (number : ℕ) (job : Job) where
  -- the history before the call
  abbrev h : History
  h = history_told jobs past seen

  -- the history after the call
  abbrev h' : History
  h' = history_told jobs past (seen ++ e ∷ [])

  -- what is held after the call
  abbrev m' : Held
  m' = after_told m e

  -- what a state claims after the call
  abbrev ClaimedAfter : State F → Type 0
  ClaimedAfter s = Claims codec spelled tracks opening past jobs (seen ++ e ∷ []) m' number job s

  -- a call of the job comes in a state
  abbrev ComesHere : Sweeping → Type 0
  ComesHere s = Comes codec spelled tracks opening past jobs seen e m number job (states.Sweeps s)

  -- a call leads the job on from a state
  abbrev AdvancesHere : Sweeping → Type 0
  AdvancesHere s = Advances codec spelled tracks opening past jobs seen e m number job (states.Sweeps s)

  -- ---- the listings

  -- a vacuum knows what it listed
  sweeps_listed : Stands spelled m h → m ≡ held_told opening seen → AreSpent opening past seen m → e.job ≡ Some number → e.call ≡ list_commits → is_no_memory e.reply ≡ false → m' ≡ m → job.command ≡ Vacuum
      → SweepsFrom spelled opening past jobs (seen ++ e ∷ []) m' number job (sweep_of (names_under Commits m))
  sweeps_listed stands now spent own is memory same_held vacuums = record {
    vacuums = vacuums;
    since = record {
      commits = listed_now seen e number Commits own is memory;
      stands = subst (λ n. Stands spelled n h) now stands;
      held = λ n bytes no_lease was. ap (λ x. map.get x n) (same_held ∙ now) ∙ was;
    };
    is_found = record {
      committed_are = ap (λ x. committed_in (names_under Commits x)) now;
      with_vac_are = ap (λ x. with_vac_in (names_under Commits x)) now;
      counting_are = ap (λ x. counting_in (names_under Commits x)) now;
      are_vacs = record { frags = refl; each = λ v at. absurd (Contains-nil v at) };
    };
    spent = subst (AreSpent opening past seen) now spent;
    old = λ f _ committed. subst (λ x. IsCommitted x f) (same_held ∙ now) committed;
  }

  -- the listing of the commits leads to the listing of the schemas
  pub sweep_commits_steps : CodecLaws codec spelled tracks → ComesHere sweeping.ListsCommits → AdvancesHere sweeping.ListsCommits
  sweep_commits_steps laws comes =
      let is : e.call ≡ list_commits = sym (same_Some list_commits e.call comes.asked) in
      let look = looked spelled opening past jobs seen e m job list_commits is tt comes.stands comes.replied comes.claims.0 in
      record {
        leads = look.leads;
        own = names_lead codec spelled tracks opening past jobs seen e m number job Commits (λ names. states.Sweeps (sweeping.ListsSchemas (sweep_of names))) e.reply
            (λ names said. (
              look.clean,
              subst (λ ns. SweepsFrom spelled opening past jobs (seen ++ e ∷ []) m' number job (sweep_of ns)) (sym (listed m e Commits names is comes.replied said))
                  (sweeps_listed comes.stands comes.is_held comes.spent comes.own is (ap is_no_memory said) look.same_held comes.claims.1),
            ))
            look.clean.undone;
      }

  -- what is held after a look commits no more
  same_committed : m' ≡ m → (f : FragKey) → IsCommitted m' f → IsCommitted m f
  same_committed same f = subst (λ x. IsCommitted x f) same

  -- the listing of the schemas leads to the first `.vac`, or to the end
  pub sweep_schemas_steps : CodecLaws codec spelled tracks → (s : Sweep) → ComesHere (sweeping.ListsSchemas s) → AdvancesHere (sweeping.ListsSchemas s)
  sweep_schemas_steps laws s comes =
      let is : e.call ≡ list_schemas = sym (same_Some list_schemas e.call comes.asked) in
      let look = looked spelled opening past jobs seen e m job list_schemas is tt comes.stands comes.replied comes.claims.0 in
      let from = sweeps_from_stays spelled opening past jobs seen e m m' job.id look.leads.leaves (λ f _. same_committed look.same_held f) number job s comes.claims.1 in
      record {
        leads = look.leads;
        own = names_lead codec spelled tracks opening past jobs seen e m number job Schemas (λ names. where_swept s (looked_at job) (schema_at (schemas_in names) (looked_at job))) e.reply
            (λ names said.
            subst (λ o. ClaimedAfter (where_swept s (looked_at job) o))
            (sym (ap (λ ns. schema_at (schemas_in ns) (looked_at job)) (listed m e Schemas names is comes.replied said) ∙ there_from_listed spelled m h comes.stands (looked_at job)))
            (elim (current_schema h (looked_at job)) as (λ o. current_schema h (looked_at job) ≡ o → ClaimedAfter (where_swept s (looked_at job) (option_map (λ x. x.key) o))) [
              | None ↦ λ _. look.clean.undone
              | Some x ↦ λ there.
                  sweeping_claims codec spelled tracks laws opening past jobs (seen ++ e ∷ []) m' number job look.clean look.leads.stands s
                  (record { from = from; found = record { schemas = listed_now seen e number Schemas comes.own is (ap is_no_memory said); current = x; holds = there } })
            ] refl))
            look.clean.undone;
      }

  -- ---- the `.vac` objects

  -- one more was got
  names_more : (s : Sweep) (f : FragKey) (names : List FragKey) → slice_get s.counting (length s.vacs) ≡ Some f → (is : GetsNames spelled opening past jobs (seen ++ e ∷ []) m' number job s)
      → IsCommitted (held_told opening ((is.from).since.commits).before) f × Names (held_told opening ((is.from).since.commits).before) f names
      → GetsNames spelled opening past jobs (seen ++ e ∷ []) m' number job (sweep_with s f names)
  names_more s f names next is one =
      let then = held_told opening ((is.from).since.commits).before in
      record {
        from = record {
          vacuums = is.from.vacuums;
          since = is.from.since;
          is_found = record {
            committed_are = is.from.is_found.committed_are;
            with_vac_are = is.from.is_found.with_vac_are;
            counting_are = is.from.is_found.counting_are;
            are_vacs = record {
              frags = push_next (λ v. v.frag) s.vacs (record { frag = f; names = names }) s.counting is.from.is_found.are_vacs.frags next;
              each = λ v at. elim (Contains-push_cases s.vacs (record { frag = f; names = names }) v at) [
                | inl before ↦ is.from.is_found.are_vacs.each v before
                | inr last ↦ subst (λ (x : VacOf). IsCommitted then x.frag × Names then x.frag x.names) last one
              ];
            };
          };
          spent = is.from.spent;
          old = is.from.old;
        };
        found = is.found;
      }

  -- the get of a `.vac` leads to the next one, or to the parts of what they name
  pub sweep_vacs_steps : CodecLaws codec spelled tracks → (s : Sweep) → ComesHere (sweeping.GetsVacs s) → AdvancesHere (sweeping.GetsVacs s)
  sweep_vacs_steps laws s comes =
      let next = asked_of get_vac (slice_get s.counting (length s.vacs)) e.call comes.asked in
      let f = next.0 in
      let look = looked spelled opening past jobs seen e m job (get_vac f) next.2 tt comes.stands comes.replied comes.claims.0 in
      let knows = gets_names_stays spelled opening past jobs seen e m m' job.id look.leads.leaves (λ g _. same_committed look.same_held g) number job s comes.claims.1 in
      let since = (knows.from).since in
      let then = held_told opening (since.commits).before in
      let counts = counting_held then f (subst (λ fs. Contains fs f) (knows.from).is_found.counting_are (Contains-slice_get s.counting (length s.vacs) f next.1)) in
      let bytes = bytes_there then (vac_of f) counts.1 in
      let reads = since.stands.merged.reads f bytes.0 counts.0 bytes.1 in
      let held : map.get m (vac_of f) ≡ Some bytes.0 = ap (λ n. map.get n (vac_of f)) (sym look.same_held) ∙ since.held (vac_of f) bytes.0 tt bytes.1 in
      record {
        leads = look.leads;
        own = subst (λ o. ClaimedAfter (with_item (λ g. on_bytes (get_vac g) (after_swept s g) e.reply) o)) (sym next.1)
            (whole_lead codec spelled tracks opening past jobs seen e m number job (vac_of f) bytes.0 (after_swept s f) next.2 comes.replied held reads.0 (inr look.clean.undone)
            (read_lead codec spelled tracks opening past jobs seen e m number job (vac_of f) (λ names. sweeping_vacs (sweep_with s f names)) reads.1.0 (names_of bytes.0) reads.1.1
            (sweeping_claims codec spelled tracks laws opening past jobs (seen ++ e ∷ []) m' number job look.clean look.leads.stands (sweep_with s f reads.1.0)
            (names_more s f reads.1.0 next.1 knows (counts.0, record { bytes = bytes.0; held = bytes.1; reads = reads.1.1 })))));
      }

  -- ---- the parts

  module _ (s : Sweep) (set : List FragKey) (listing : List (List Name)) (f : FragKey) (next : slice_get set (length listing) ≡ Some f) (names : List Name) (is : ListsAll spelled opening past jobs (seen ++ e ∷ []) m' number job s set listing) where
    -- the listing of the commits
    abbrev before : List Told
    before = (((is.gets).from).since.commits).before

    abbrev first : Told
    first = (((is.gets).from).since.commits).listing

    -- those of one fragment more were listed
    parts_more : ListsPartsOf opening (seen ++ e ∷ []) number before first f names → AreParts opening (seen ++ e ∷ []) number before first set (listing ++ names ∷ [])
    parts_more one i g ns at there = elim (slice_get_push listing names i ns there) [
      | inl old ↦ is.parts i g ns at old
      | inr last ↦
          let same : f ≡ g = same_Some f g (sym next ∙ ap (slice_get set) (sym last.0) ∙ at) in
          subst (λ x. ListsPartsOf opening (seen ++ e ∷ []) number before first g x) last.1 (subst (λ x. ListsPartsOf opening (seen ++ e ∷ []) number before first x names) same one)
    ]

    lists_more : ListsPartsOf opening (seen ++ e ∷ []) number before first f names → ListsAll spelled opening past jobs (seen ++ e ∷ []) m' number job s set (listing ++ names ∷ [])
    lists_more one =
        let within = slice_get_within set (length listing) f next in
        let longer = length_push listing names in
        record {
          gets = is.gets;
          all_vacs = is.all_vacs;
          set_is = is.set_is;
          so_many = omega (arith, within, longer);
          parts = parts_more one;
        }

  -- the listing of the objects of a fragment leads to the next one, or to the removals
  pub sweep_parts_steps : CodecLaws codec spelled tracks → (s : Sweep) (set : List FragKey) (listing : List (List Name)) → ComesHere (sweeping.ListsParts s set listing) → AdvancesHere (sweeping.ListsParts s set listing)
  sweep_parts_steps laws s set listing comes =
      let next = asked_of list_parts (slice_get set (length listing)) e.call comes.asked in
      let f = next.0 in
      let look = looked spelled opening past jobs seen e m job (list_parts f) next.2 tt comes.stands comes.replied comes.claims.0 in
      let knows = lists_all_stays spelled opening past jobs seen e m m' job.id look.leads.leaves (λ g _. same_committed look.same_held g) number job s set listing comes.claims.1 in
      let commits = ((((comes.claims).1).gets).from).since.commits in
      record {
        leads = look.leads;
        own = subst (λ o. ClaimedAfter (with_item (λ g. on_names (list_parts g) (λ names. listing_parts s set (listing ++ names ∷ [])) e.reply) o)) (sym next.1)
            (names_lead codec spelled tracks opening past jobs seen e m number job (Fragment f) (λ names. listing_parts s set (listing ++ names ∷ [])) e.reply
            (λ names said.
            listing_claims codec spelled tracks laws opening past jobs (seen ++ e ∷ []) m' number job look.clean look.leads.stands s set (listing ++ names ∷ [])
            (lists_more s set listing f next.1 names knows (record {
              lists = record { parts = listed_now seen e number (Fragment f) comes.own next.2 (ap is_no_memory said); between = commits.later; order = commits.place };
              names_are = listed m e (Fragment f) names next.2 comes.replied said ∙ ap (names_under (Fragment f)) comes.is_held;
            })))
            look.clean.undone);
      }
