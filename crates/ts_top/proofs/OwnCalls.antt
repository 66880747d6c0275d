-- The calls of one command among all: what its stop left of them, and that those of a command that ended well found memory.
use Rattle.std.proofs.Common.{◌≡◌, ℕ, Bool, true, false, cond, nat_eq, List, [], ◌∷◌, ◌++◌, Option, Some, None, refl, sym, ◌∙◌, ap, subst}
use Rattle.std.specs.Prelude.{All, Contains, IsTrue, filter}
use Rattle.std.specs.List.{cons_option}
use Rattle.std.proofs.lemmas.Bool.{eq-eqb, eqb-true, true≢false}
use Rattle.std.proofs.lemmas.List.Elements.{All-append, All-cons, All-head, All-nil, All-tail}
use Rattle.ts_base.specs.declared.heads.Stop.{Stop}
use Rattle.ts_base.specs.declared.names.Name.{Name}
use Rattle.ts_base.specs.declared.names.Name.TheVariants as name
use Rattle.ts_base.specs.Held.{Held}
use Rattle.ts_store.specs.declared.call.Call.{Call}
use Rattle.ts_store.specs.declared.call.Call.TheVariants as call
use Rattle.ts_store.specs.declared.call.Reply.{Reply}
use Rattle.ts_store.specs.declared.call.Reply.TheVariants as reply
use Rattle.ts_store.specs.Calls.{is_no_memory}
use Rattle.ts_model.specs.declared.answers.Driven.TheVariants.{Done}
use Rattle.ts_model.specs.declared.answers.Outcome.{Outcome}
use Rattle.ts_model.specs.declared.answers.Outcome.TheVariants as outcome
use Rattle.ts_model.specs.declared.answers.Refusal.{Refusal}
use Rattle.ts_model.specs.declared.commands.Job.{Job}
use Rattle.ts_model.specs.Stages.{lease_of, released}
use Rattle.ts_model.specs.States.{Exchange}
use Rattle.ts_model.specs.Stops.{Uncut}
use Rattle.ts_model.specs.Told.{Told, entries_of, entry_of, exchange_of, is_by, trace_of}
use Rattle.ts_model.specs.Jobs.{refused_before}
use Rattle.ts_model.proofs.ListLemmas.{filter-Contains}
use Rattle.ts_model.proofs.Traces.{exchange_of_other}
use Rattle.ts_law.specs.Courses.{Along, EndsAlong, EndsUnder, Found, IsSegment, Looks, MayEndAs, NotBegun, NotOwn, Removed, course_of, lets_on, removal}
use Rattle.ts_law.specs.Lanes.{IsOwned}
use Rattle.ts_top.specs.Promise.{KeepsStop}
use Rattle.ts_top.specs.Times.{Made, entries_by, journal_of}
use Rattle.ts_top.specs.Runners.{run_codec}
use Rattle.ts_top.proofs.LeasesTold.{EndsWell, told_removed}
use Rattle.ts_top.proofs.StopsTold.{keeps_stop}
use Rattle.ts_top.proofs.TimesTold.{all_made, call_made, made_in}

-- ---- its calls

-- the calls of a command
abbrev pub own_calls : ℕ → List Told → List Told
own_calls number told = filter (λ e. is_by number e.job) told

by_is : (number : ℕ) (o : Option ℕ) → is_by number o ≡ true → o ≡ Some number
by_is number None is = absurd (true≢false (sym is))
by_is number (Some n) is = ap Some (eqb-true n number is)

pub own_are : (number : ℕ) (told : List Told) (e : Told) → Contains (own_calls number told) e → e.job ≡ Some number
own_are number told e at = by_is number e.job (filter-Contains (λ x. is_by number x.job) told e at).1

-- they are all that its trace has
pub own_trace : (number : ℕ) (told : List Told) → trace_of number (own_calls number told) ≡ trace_of number told
own_trace number [] = refl
own_trace number (e ∷ told) = by (own_trace number told) (is_by number e.job) refl
  where
    by : trace_of number (own_calls number told) ≡ trace_of number told → (b : Bool) → is_by number e.job ≡ b → trace_of number (cond b (e ∷ own_calls number told) (own_calls number told)) ≡ trace_of number (e ∷ told)
    by rest true is = ap (λ xs. cons_option (exchange_of number e) xs) rest
    by rest false is =
        let other : e.job ≡ Some number → ⊥ = λ mine. true≢false (sym (ap (is_by number) mine ∙ eq-eqb number number refl) ∙ is) in
        rest ∙ sym (ap (λ o. cons_option o (trace_of number told)) (exchange_of_other number e other))

module _ (lane : Option ℕ → ℕ) (number : ℕ) where
  -- the journal has the entries of these
  pub own_entries : (told : List Told) → All IsOwned told → entries_by number (all_made lane told) ≡ entries_of lane (own_calls number told)
  own_entries [] owned = refl
  own_entries (e ∷ told) owned =
      let P : Option ℕ → Type 0 = λ o. entries_by number (cons_option (cond (is_no_memory e.reply) None (made_in lane e o)) (all_made lane told)) ≡ entries_of lane (cond (is_by number o) (e ∷ own_calls number told) (own_calls number told)) in
      let mine = All-head IsOwned e told owned in
      subst P (sym mine.1) (by (own_entries told (All-tail IsOwned e told owned)) (is_no_memory e.reply) refl mine.0 mine.1)
    where
      Others : Type 0
      Others = entries_by number (all_made lane told) ≡ entries_of lane (own_calls number told)

      own_entry : (k : ℕ) → is_no_memory e.reply ≡ false → e.job ≡ Some k → entry_of lane e ≡ Some (call_made lane e k).entry
      own_entry k memory mine = ap (λ b. cond b None (Some (record { lane = lane e.job; call = e.call; fate = e.fate }))) memory ∙ ap (λ o. Some (record { lane = lane o; call = e.call; fate = e.fate })) mine

      by : Others → (b : Bool) → is_no_memory e.reply ≡ b → (k : ℕ) → e.job ≡ Some k
          → entries_by number (cons_option (cond b None (Some (call_made lane e k))) (all_made lane told)) ≡ entries_of lane (cond (nat_eq k number) (e ∷ own_calls number told) (own_calls number told))
      by rest true short k mine = elim (nat_eq k number) as (λ t. entries_by number (all_made lane told) ≡ entries_of lane (cond t (e ∷ own_calls number told) (own_calls number told))) [
        | true ↦ rest ∙ sym (ap (λ t. cons_option (cond t None (Some (record { lane = lane e.job; call = e.call; fate = e.fate }))) (entries_of lane (own_calls number told))) short)
        | false ↦ rest
      ]
      by rest false memory k mine = elim (nat_eq k number) as (λ t. journal_of (cond t (call_made lane e k ∷ filter (λ (c : Made). nat_eq c.number number) (all_made lane told)) (filter (λ (c : Made). nat_eq c.number number) (all_made lane told))) ≡ entries_of lane (cond t (e ∷ own_calls number told) (own_calls number told))) [
        | true ↦ ap (λ es. (call_made lane e k).entry ∷ es) rest ∙ sym (ap (λ o. cons_option o (entries_of lane (own_calls number told))) (own_entry k memory mine))
        | false ↦ rest
      ]

  -- they keep the stop that cut off none of them
  pub own_stop : (m : Held) (told : List Told) → All IsOwned told → (stops : Stop) → Uncut stops 0 (trace_of number told) → KeepsStop stops (record { opening = m; entries = entries_by number (all_made lane told) })
  own_stop m told owned stops uncut =
      subst (λ es. KeepsStop stops (record { opening = m; entries = es })) (sym (own_entries told owned))
      (keeps_stop lane number m [] (own_calls number told) (own_are number told) stops (subst (Uncut stops 0) (sym (own_trace number told)) uncut))

-- ---- memory

-- a reply by which a job goes on is no want of memory
lets_memory : (c : Call) (r : Reply) → IsTrue (lets_on c r) → is_no_memory r ≡ false
lets_memory c reply.NoMemory lets = absurd (none c lets)
  where
    none : (d : Call) → IsTrue (lets_on d reply.NoMemory) → ⊥
    none (call.Put name.Domain bytes) on = true≢false (sym on)
    none (call.Put n bytes) on = true≢false (sym on)
    none (call.Remove n) on = true≢false (sym on)
    none (call.List prefix) on = true≢false (sym on)
    none (call.Get n from len) on = true≢false (sym on)
    none (call.Size n) on = true≢false (sym on)
lets_memory c _ lets = refl

-- the store had memory for a call
abbrev HadMemory : Exchange → Type 0
HadMemory x = is_no_memory x.reply ≡ false

along_memory : (looks : Looks) (before : List Exchange) (course : List Call) (trace : List Exchange) (left : List Call) → Along looks before course trace left → All HadMemory trace
along_memory looks before course [] left along = All-nil HadMemory
along_memory looks before course (x ∷ xs) left (lets, (rest, next, more)) = All-cons HadMemory x xs (lets_memory x.call x.reply lets) (along_memory looks (before ++ x ∷ []) rest xs left more)

-- the calls of a job that ended well along its course found memory
well_memory : (job : Job) (found : Found) (course : List Call) (trace : List Exchange) (end : Outcome) → EndsWell end → EndsAlong run_codec job found course trace end → All HadMemory trace
well_memory job found course trace (outcome.Refused r) well ends = absurd well
well_memory job found course trace outcome.OutOfMemory well ends = absurd well
well_memory job found course trace outcome.Created well ends = along_memory _ [] course trace [] ends.0
well_memory job found course trace (outcome.Evolved k) well ends = along_memory _ [] course trace [] ends.0
well_memory job found course trace (outcome.Written f) well ends = along_memory _ [] course trace [] ends.0
well_memory job found course trace (outcome.Deleted f) well ends = along_memory _ [] course trace [] ends.0
well_memory job found course trace (outcome.Read answer) well ends = along_memory _ [] course trace [] ends.0
well_memory job found course trace (outcome.Consolidated f count) well ends = along_memory _ [] course trace [] ends.0
well_memory job found course trace (outcome.Vacuumed count) well ends = along_memory _ [] course trace [] ends.0
well_memory job found course trace (outcome.Unlocked count) well ends = along_memory _ [] course trace [] ends.0
well_memory job found course trace (outcome.Listed names) well ends = along_memory _ [] course trace [] ends.0

-- the end that a job had come to before it removed its lease was well too
was_well : (lease : Name) (was end : Outcome) (r : Reply) → EndsWell end → end ≡ released lease was r → EndsWell was
was_well lease (outcome.Refused cause) end r well is = absurd (subst EndsWell is well)
was_well lease outcome.OutOfMemory end r well is = absurd (subst EndsWell is well)
was_well lease _ end r well is = tt

-- the calls of a job that ended well found memory
pub heeds_memory : (job : Job) (trace : List Exchange) (end : Outcome) → EndsWell end → IsSegment run_codec job trace (Done end) → All HadMemory trace
heeds_memory job trace end well is = by_begin (refused_before job.command) is.ends
  where
    by_lease : (o : Option Name) → EndsUnder run_codec job is.found o trace end → All HadMemory trace
    by_lease None ends = well_memory job is.found (course_of run_codec job is.found) trace end well ends
    by_lease (Some lease) (NotBegun none short) = absurd (subst EndsWell short well)
    by_lease (Some lease) (NotOwn only taken) = absurd (subst EndsWell taken well)
    by_lease (Some lease) (Removed front r was parts put heeds ends same) =
        subst (All HadMemory) (sym parts)
        (All-append HadMemory front (removal lease r ∷ []) (well_memory job is.found (course_of run_codec job is.found) front was (was_well lease was end r well same) ends)
        (All-cons HadMemory (removal lease r) [] (ap is_no_memory (told_removed lease was end r well same)) (All-nil HadMemory)))

    by_begin : (o : Option Refusal) → MayEndAs run_codec job is.found trace end o → All HadMemory trace
    by_begin None ends = by_lease (lease_of job) ends
    by_begin (Some r) (none, why) = subst (All HadMemory) (sym none) (All-nil HadMemory)
