-- The gets of the deletes that a read listed.
use Rattle.std.proofs.Common.{◌≡◌, ℕ, inl, inr, List, [], ◌∷◌, ◌++◌, Some, Ok, length, sym, ◌∙◌, ap, subst}
use Rattle.std.specs.Prelude.{Contains, option_map, slice_get}
use Rattle.std.specs.FinMap as map
use Rattle.std.proofs.lemmas.List.Elements.{Contains-append_left, Contains-push_cases}
use Rattle.ts_base.specs.declared.keys.FragKey.{FragKey}
use Rattle.ts_base.specs.declared.names.CommitKind.TheVariants.{Del}
use Rattle.ts_base.specs.declared.names.Name.TheVariants as name
use Rattle.ts_base.specs.Keys.{frag_of}
use Rattle.ts_base.specs.Held.{Held}
use Rattle.ts_cond.proofs.ConditionLaws.{cond_exact}
use Rattle.ts_cond.specs.CondTexts.{IsCond, cond_bytes, cond_object, cond_of}
use Rattle.ts_cond.specs.Tests.{Condition}
use Rattle.ts_schema.specs.declared.schemas.Schema.{Schema}
use Rattle.ts_schema.specs.Parts.{IsShort}
use Rattle.ts_wire.proofs.Objects.{object_only}
use Rattle.ts_wire.specs.declared.kinds.Kind.TheVariants as kind
use Rattle.ts_model.specs.declared.commands.Job.{Job}
use Rattle.ts_model.specs.declared.deeds.Deletion.{Deletion}
use Rattle.ts_model.specs.declared.states.Opened.{Opened}
use Rattle.ts_model.specs.declared.states.Reading.{Reading}
use Rattle.ts_model.specs.declared.states.State.{State}
use Rattle.ts_model.specs.declared.states.State.TheVariants.{Collects}
use Rattle.ts_model.specs.declared.states.Collecting.TheVariants.{GetsDeletes}
use Rattle.ts_model.specs.Deeds.{History, deletions, deletion_of}
use Rattle.ts_model.specs.Codecs.{Codec, CodecLaws, Spelled, Tracking}
use Rattle.ts_law.specs.Kept.{Claims, GettingDeletes, LooksInto}
use Rattle.ts_model.specs.States.{after_delete, getting_deletes, deletion_named, get_delete, on_bytes, with_deletion, with_item}
use Rattle.ts_law.specs.Steps.{Advances, Comes}
use Rattle.ts_model.specs.Told.{Told, after_told, held_told, history_told}
use Rattle.ts_law.proofs.Declaring.{short_body}
use Rattle.ts_model.proofs.HistoryLaws.{deletion_facts, deletion_of_name, deletions-append}
use Rattle.ts_model.proofs.ListLemmas.{Contains-slice_get}
use Rattle.ts_law.proofs.ListSteps.{erase_from_looked, looked}
use Rattle.ts_law.proofs.ReadSteps.{asked_of, getting_deletes_claims, no_listing, push_next, read_lead, whole_lead}
use Rattle.ts_law.proofs.Stays.{getting_deletes_stays}
use Rattle.ts_model.proofs.Traces.{history_told_grows}

-- the object of a condition is read as that condition
pub cond_again : (c : Condition) → IsCond c → IsShort (cond_object c) → cond_of (cond_object c) ≡ Ok c
unfolding cond_of cond_object
cond_again c is short = object_only cond_exact kind.Delete c (short_body kind.Delete (cond_bytes c) short) is

-- a delete is the one of its name and its condition
pub deletion_again : (x : Deletion) (f : FragKey) → frag_of x.key ≡ f → deletion_named f x.cond ≡ x
deletion_again x f named = ap (λ g. deletion_named g x.cond) (sym named)

module _ {F : Type 0} (codec : Codec F) (spelled : Spelled) (tracks : Tracking F) (opening : Held) (past : History) (jobs : List Job) (seen : List Told) (e : Told) (m : Held) (number : ℕ) (job : Job) where
  -- the history before the call
  abbrev h : History
  h = history_told jobs past seen

  -- the history after the call
  abbrev h' : History
  h' = history_told jobs past (seen ++ e ∷ [])

  -- what is held after the call
  abbrev m' : Held
  m' = after_told m e

  -- what a state claims after the call
  abbrev ClaimedAfter : State F → Type 0
  ClaimedAfter s = Claims codec spelled tracks opening past jobs (seen ++ e ∷ []) m' number job s

  -- a delete that a read listed is a deed
  listed_deed : (from to : ℕ) (fragments counting delete_names : List FragKey) → LooksInto spelled opening past jobs seen m number from to fragments counting delete_names → (f : FragKey) → Contains delete_names f
      → (x : Deletion) × Contains (deletions h) x × (frag_of x.key ≡ f)
  listed_deed from to fragments counting delete_names listed f at =
      let commits = listed.since.commits in
      let then = held_told opening commits.before in
      let of = erase_from_looked spelled then (history_told jobs past commits.before) listed.since.stands from to f (subst (λ fs. Contains fs f) listed.deletes_are at) in
      let grown = history_told_grows jobs past commits.before (commits.listing ∷ commits.later) in
      let now : h ≡ history_told jobs past commits.before ++ grown.0 = ap (history_told jobs past) commits.place ∙ grown.1 in (
        of.0,
        subst (λ g. Contains (deletions g) of.0) (sym now)
            (rw (deletions-append (history_told jobs past commits.before) grown.0) (Contains-append_left (deletions (history_told jobs past commits.before)) (deletions grown.0) of.0 of.1)),
        of.2,
      )

  -- with a delete more
  erased_more : (r : Reading) (opened : List Opened) (schemas : List Schema) (x : Deletion) → slice_get r.delete_names (length r.deletions) ≡ Some (frag_of x.key) → Contains (deletions h') x
      → GettingDeletes codec spelled opening past jobs (seen ++ e ∷ []) m' number job r opened schemas → GettingDeletes codec spelled opening past jobs (seen ++ e ∷ []) m' number job (with_deletion r x) opened schemas
  erased_more r opened schemas x next deed is =
      let gathers = is.gathers in
      let reads = gathers.reads in
      let chosen = gathers.chosen in
      record {
        gathers = record {
          reads = record { query = reads.query; reads = reads.reads; at = reads.at; framed = reads.framed; is_ready = reads.is_ready };
          chosen = record {
            are_vacs = chosen.are_vacs;
            all_vacs = chosen.all_vacs;
            all = chosen.all;
            are_open = chosen.are_open;
            all_open = chosen.all_open;
            loads = chosen.loads;
            heads = chosen.heads;
            are_heads = chosen.are_heads;
            clipped_is = chosen.clipped_is;
            each = chosen.each;
            usable = chosen.usable;
            covered = chosen.covered;
          };
          gathered = gathers.gathered;
        };
        all_schemas = is.all_schemas;
        deletions = record {
          names_are = push_next (λ y. frag_of y.key) r.deletions x r.delete_names (is.deletions).names_are next;
          each = λ y at. elim (Contains-push_cases r.deletions x y at) [
            | inl before ↦ (is.deletions).each y before
            | inr last ↦ subst (Contains (deletions h')) last deed
          ];
        };
      }

  -- the get of a delete leads a read to the next one, or to the first fetch
  pub deletes_steps : CodecLaws codec spelled tracks → (r : Reading) (opened : List Opened) (schemas : List Schema)
      → Comes codec spelled tracks opening past jobs seen e m number job (Collects (GetsDeletes r opened schemas)) → Advances codec spelled tracks opening past jobs seen e m number job (Collects (GetsDeletes r opened schemas))
  deletes_steps laws r opened schemas comes =
      let next = asked_of get_delete (slice_get r.delete_names (length r.deletions)) e.call comes.asked in
      let f = next.0 in
      let n = name.Commit f Del in
      let look = looked spelled opening past jobs seen e m job (get_delete f) next.2 tt comes.stands comes.replied comes.claims.0 in
      let unlisted = no_listing codec spelled tracks opening past jobs seen e m number job n next.2 in
      let claims = comes.claims.1 in
      let deed = listed_deed r.from r.to r.fragments r.counting r.delete_names (((((claims.gathers)).reads).at).listed) f (Contains-slice_get r.delete_names (length r.deletions) f next.1) in
      let x = deed.0 in
      let named : frag_of x.key ≡ f = deed.2 in
      let of : deletion_of h f ≡ Some x = subst (λ g. deletion_of h g ≡ Some x) named (deletion_of_name h x (comes.stands).history deed.1) in
      let held : map.get m n ≡ Some (cond_object x.cond) = (comes.stands).deletes f ∙ ap (option_map (λ y. cond_object y.cond)) of in
      let short = (comes.stands).short_deletes f (cond_object x.cond) held in
      let again = cond_again x.cond (deletion_facts h x (comes.stands).history deed.1).0 short in
      let after = getting_deletes_stays spelled opening past jobs seen e m m' job.id (look.leads).leaves number codec job r opened schemas unlisted claims in
      let on : Condition → State F = λ condition. getting_deletes codec (with_deletion r (deletion_named f condition)) opened schemas in
      record {
        leads = look.leads;
        own = subst (λ o. ClaimedAfter (with_item (λ g. on_bytes (get_delete g) (after_delete codec r opened schemas g) e.reply) o)) (sym next.1)
            (whole_lead codec spelled tracks opening past jobs seen e m number job n (cond_object x.cond) (after_delete codec r opened schemas f) next.2 comes.replied held short (inr (look.clean).undone)
            (read_lead codec spelled tracks opening past jobs seen e m number job n on x.cond (cond_of (cond_object x.cond)) again
            (subst (λ y. ClaimedAfter (getting_deletes codec (with_deletion r y) opened schemas)) (sym (deletion_again x f named))
            (getting_deletes_claims codec spelled tracks opening past jobs (seen ++ e ∷ []) m' number job laws look.clean look.history (with_deletion r x) opened schemas
            (erased_more r opened schemas x (next.1 ∙ ap Some (sym named)) (subst (λ g. Contains (deletions g) x) (sym look.same_history) deed.1) after)))));
      }
