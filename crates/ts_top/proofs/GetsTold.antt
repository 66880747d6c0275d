-- How many gets a read makes: few, by what was held before its calls.
use Rattle.std.proofs.Common.{◌≡◌, ◌≢◌, ℕ, ◌+◌, ◌≤◌, Bool, true, false, cond, inl, inr, List, [], ◌∷◌, ◌++◌, Option, Some, None, refl, sym, ◌∙◌, ap, subst, append_assoc, arith}
use Rattle.std.specs.Prelude.{Contains, map as list_map}
use Rattle.std.specs.FinMap as map
use Rattle.std.specs.List.{cons_option}
use Rattle.std.proofs.lemmas.Bool.{true≢false}
use Rattle.std.proofs.lemmas.List.Sums.{sum_by-cons}
use Rattle.ts_base.specs.Held.{Held}
use Rattle.ts_base.specs.Names.{is_under}
use Rattle.ts_base.specs.declared.names.LeaseMode.{LeaseMode}
use Rattle.ts_base.specs.declared.names.Name.{Name}
use Rattle.ts_base.specs.declared.names.Name.TheVariants as name
use Rattle.ts_base.specs.declared.names.Prefix.{Prefix}
use Rattle.ts_base.specs.declared.names.Prefix.TheVariants.{Commits, Fragment, Leases, Schemas}
use Rattle.ts_cond.specs.declared.query.Query.{Query}
use Rattle.ts_store.specs.declared.journal.Entry.{Entry}
use Rattle.ts_store.specs.Calls.{is_no_memory}
use Rattle.ts_model.specs.declared.commands.Command.TheVariants.{Read}
use Rattle.ts_model.specs.declared.commands.Job.{Job}
use Rattle.ts_model.specs.Deeds.{History}
use Rattle.ts_model.specs.Driven.{AskedFrom}
use Rattle.ts_model.specs.Gets.{MostGets, gets_of}
use Rattle.ts_model.specs.Jobs.{key_of}
use Rattle.ts_model.specs.Stages.{first_stage, lease_of}
use Rattle.ts_model.specs.States.{Exchange}
use Rattle.ts_model.specs.Told.{IsReplied, Replied, Told, entries_of, held_told, trace_of}
use Rattle.ts_model.proofs.ListLemmas.{Contains-cons, Contains-here, Contains-nil, Contains-there}
use Rattle.ts_model.proofs.Traces.{held_told-append}
use Rattle.ts_model.specs.Codecs.{Spelled}
use Rattle.ts_law.specs.Bounds.{FewGets, GetsFew, GetsTwo, NoGets, gets_among}
use Rattle.ts_law.specs.Changes.{ChangedNothing}
use Rattle.ts_law.specs.Stands.{Stands}
use Rattle.ts_law.proofs.Effects.{got, listed}
use Rattle.ts_law.proofs.Journals.{journal_held}
use Rattle.ts_law.proofs.LeaseSteps.{lease_is}
use Rattle.ts_law.proofs.Objects.{apart_from_lease}
use Rattle.ts_law.proofs.ReadBounds.{Agrees}
use Rattle.ts_law.proofs.ReadStages.{reads_few}
use Rattle.ts_top.specs.Runners.{run_codec, run_most, run_spelled, run_tracks}
use Rattle.ts_top.proofs.MergesTold.{calls_in}
use Rattle.ts_top.proofs.Removed.{call_among, same_names, trace_first}
use Rattle.ts_top.proofs.RunCodec.{run_bounded, run_gets, run_laws}

-- where so many gets are few, fewer are
pub fewer_still : (spelled : Spelled) (most : MostGets) (h : History) (m : Held) (from to : ℕ) (query : Query) (less count : ℕ) → less ≤ count → FewGets spelled most h m from to query count → FewGets spelled most h m from to query less
fewer_still spelled most h m from to query less count below (NoGets none) = NoGets (omega (arith, below, none))
fewer_still spelled most h m from to query less count below (GetsTwo frame there r framed holds refused few) = GetsTwo frame there r framed holds refused (omega (arith, below, few))
fewer_still spelled most h m from to query less count below (GetsFew r pieces over few) = GetsFew r pieces over (omega (arith, below, few))

-- the journal has no more gets of a job than it made: those that found no memory it does not have
pub entered_fewer : (lane : Option ℕ → ℕ) (number : ℕ) (c : List Told) → ((e : Told) → Contains c e → e.job ≡ Some number) → gets_among (list_map (λ (y : Entry). y.call) (entries_of lane c)) ≤ gets_among (list_map (λ (x : Exchange). x.call) (trace_of number c))
entered_fewer lane number [] own = omega arith
entered_fewer lane number (e ∷ c) own =
    let rest = entered_fewer lane number c (λ x at. own x (Contains-there e c x at)) in
    let made = ap (λ t. gets_among (list_map (λ (x : Exchange). x.call) t)) (trace_first number e c (own e (Contains-here e c))) ∙ sum_by-cons gets_of e.call (list_map (λ (x : Exchange). x.call) (trace_of number c)) in
    by (is_no_memory e.reply) rest made
  where
    by : (b : Bool) → gets_among (list_map (λ (y : Entry). y.call) (entries_of lane c)) ≤ gets_among (list_map (λ (x : Exchange). x.call) (trace_of number c))
        → gets_among (list_map (λ (x : Exchange). x.call) (trace_of number (e ∷ c))) ≡ gets_of e.call + gets_among (list_map (λ (x : Exchange). x.call) (trace_of number c))
        → gets_among (list_map (λ (y : Entry). y.call) (cons_option (cond b None (Some (record { lane = lane e.job; call = e.call; fate = e.fate }))) (entries_of lane c))) ≤ gets_among (list_map (λ (x : Exchange). x.call) (trace_of number (e ∷ c)))
    by true rest made = omega (arith, rest, made)
    by false rest made = let own_entry = sum_by-cons gets_of e.call (list_map (λ (y : Entry). y.call) (entries_of lane c)) in omega (arith, rest, made, own_entry)

module _ (m : Held) (lane : Option ℕ → ℕ) (a c told : List Told) (parts : told ≡ a ++ c) (number : ℕ) (job : Job) (mine : (e : Told) → Contains c e → e.job ≡ Some number)
    (replied : Replied (held_told m a) c) (idle : ChangedNothing m told number job) where
  -- objects that are no lease of the job are as before its calls
  abbrev IsAlike : Held → Type 0
  IsAlike now = (n : Name) → (lease_of job ≡ Some n → ⊥) → map.get now n ≡ map.get (held_told m a) n

  -- a lease is listed with leases alone
  lease_listed : (prefix : Prefix) (q : Name) → is_under prefix q ≡ true → prefix ≢ Leases → lease_of job ≡ Some q → ⊥
  lease_listed prefix q under apart has = let (mode, named) = lease_is job q has in by_prefix mode prefix (ap (is_under prefix) (sym named) ∙ under) apart
    where
      by_prefix : (mode : LeaseMode) (p : Prefix) → is_under p (name.Lease (key_of job) mode) ≡ true → p ≢ Leases → ⊥
      by_prefix mode Leases under_it apart_it = apart_it refl
      by_prefix mode Schemas under_it apart_it = true≢false (sym under_it)
      by_prefix mode Commits under_it apart_it = true≢false (sym under_it)
      by_prefix mode (Fragment f) under_it apart_it = true≢false (sym under_it)

  -- a reply over such objects agrees with what was held before the calls
  agrees_now : (now : Held) → IsAlike now → (e : Told) → IsReplied now e → Agrees (held_told m a) e.call e.reply
  agrees_now now alike e replied_now = record {
    lists = λ prefix names is said apart. listed now e prefix names is replied_now said ∙ same_names prefix now (held_told m a) (λ q under. alike q (lease_listed prefix q under apart));
    gets = λ n from len bytes is said none. let all = (got now e n from len is replied_now).bytes bytes said in (all.0, sym (alike n (apart_from_lease job n none)) ∙ all.1, all.2);
  }

  -- so do all
  agrees_all : (seen rest : List Told) → told ≡ seen ++ rest → ((e : Told) → Contains rest e → e.job ≡ Some number) → IsAlike (held_told m seen) → Replied (held_told m seen) rest → (e : Told) → Contains rest e → Agrees (held_told m a) e.call e.reply
  agrees_all seen [] place own alike replies e at = absurd (Contains-nil e at)
  agrees_all seen (x ∷ rest) place own alike replies e at = elim (Contains-cons x rest e at) [
    | inl same ↦ subst (λ y. Agrees (held_told m a) y.call y.reply) same (agrees_now (held_told m seen) alike x replies.0)
    | inr later ↦
        agrees_all (seen ++ x ∷ []) rest (place ∙ sym (append_assoc seen (x ∷ []) rest)) (λ y among. own y (Contains-there x rest y among))
        (λ n other. idle seen rest x place (own x (Contains-here x rest)) n other ∙ alike n other) (subst (λ h. Replied h rest) (sym (held_told-append m seen (x ∷ []))) replies.1) e later
  ]

  -- a read makes few gets, those counted too for which there was no memory
  pub gets_made : (h : History) → Stands run_spelled (held_told m a) h → (from to : ℕ) (query : Query) → job.command ≡ Read from to query → AskedFrom run_codec job (first_stage job) (trace_of number c)
      → FewGets run_spelled run_most h (held_told m a) from to query (gets_among (list_map (λ (x : Exchange). x.call) (trace_of number c)))
  gets_made h stands from to query reads asked =
      reads_few run_codec run_spelled run_tracks run_laws run_gets run_most run_bounded h (held_told m a) stands from to query job reads (trace_of number c) asked (λ x at.
      let (e, among, call_is, reply_is) = call_among number c x mine at in
      subst (Agrees (held_told m a) x.call) reply_is (subst (λ d. Agrees (held_told m a) d e.reply) call_is (agrees_all a c parts mine (λ n other. refl) replied e among)))

  -- so the journal has few of it
  pub gets_told : (h : History) → Stands run_spelled (held_told m a) h → (from to : ℕ) (query : Query) → job.command ≡ Read from to query → AskedFrom run_codec job (first_stage job) (trace_of number c)
      → FewGets run_spelled run_most h (calls_in m lane a c).opening from to query (gets_among (list_map (λ (y : Entry). y.call) (calls_in m lane a c).entries))
  gets_told h stands from to query reads asked =
      let all = gets_made h stands from to query reads asked in
      subst (λ o. FewGets run_spelled run_most h o from to query (gets_among (list_map (λ (y : Entry). y.call) (entries_of lane c)))) (journal_held lane m a)
      (fewer_still run_spelled run_most h (held_told m a) from to query (gets_among (list_map (λ (y : Entry). y.call) (entries_of lane c))) (gets_among (list_map (λ (x : Exchange). x.call) (trace_of number c))) (entered_fewer lane number c mine) all)
