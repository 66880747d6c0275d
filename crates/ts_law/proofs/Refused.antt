-- A job that ended refused is refused for its cause.
use Rattle.std.proofs.Common.{◌≡◌, ◌≢◌, ℕ, ◌^◌, ◌-◌, Bool, true, false, cond, ◌⊎◌, inl, inr, List, [], ◌∷◌, ◌++◌, Option, Some, None, Ok, length, refl, sym, ◌∙◌, ap, subst, arith}
use Rattle.std.specs.Prelude.{Contains, option_map, nat_lt}
use Rattle.std.specs.Option.{option_or}
use Rattle.std.specs.FinMap as map
use Rattle.std.proofs.lemmas.Bool.{cases_eq, true≢false, ltb-true}
use Rattle.std.proofs.lemmas.Option.{same_Some, none-some}
use Rattle.std.proofs.lemmas.List.{take_all}
use Rattle.std.proofs.lemmas.List.Elements.{Contains-append_left, Contains-push}
use Rattle.std.proofs.lemmas.Slice.Eq.{bytes_eq-Decides}
use Rattle.ts_base.specs.Held.{Held}
use Rattle.ts_base.specs.declared.keys.Key.{Key}
use Rattle.ts_base.specs.declared.names.Name.{Name}
use Rattle.ts_base.specs.declared.names.Name.TheVariants as name
use Rattle.ts_base.specs.declared.names.Prefix.{Prefix}
use Rattle.ts_base.specs.declared.names.Prefix.TheVariants.{Leases, Schemas}
use Rattle.ts_base.specs.Names.{is_under}
use Rattle.ts_domain.specs.Dims.{domain_fault}
use Rattle.ts_domain.specs.declared.dims.DomainFault.{DomainFault}
use Rattle.ts_lease.specs.Leases.{verdict_in}
use Rattle.ts_schema.specs.declared.faults.SchemaFault.{SchemaFault}
use Rattle.ts_schema.specs.declared.frames.Frame.{Frame}
use Rattle.ts_schema.specs.declared.schemas.Schema.{Schema}
use Rattle.ts_schema.specs.Evolutions.{schema_at}
use Rattle.ts_schema.specs.Faults.{schema_fault}
use Rattle.ts_schema.specs.FrameTexts.{frame_object, frame_of}
use Rattle.ts_schema.specs.Parts.{IsShort}
use Rattle.ts_schema.specs.SchemaTexts.{schema_object, schema_of}
use Rattle.ts_wire.proofs.Laws.{same_ok}
use Rattle.ts_store.specs.declared.call.Call.{Call}
use Rattle.ts_store.specs.declared.call.Call.TheVariants as call
use Rattle.ts_store.specs.declared.call.Reply.{Reply}
use Rattle.ts_store.specs.declared.call.Reply.TheVariants as reply
use Rattle.ts_store.specs.declared.fate.Fate.TheVariants as fate
use Rattle.ts_store.specs.Calls.{answer, is_no_memory, length_reply, names_under, part_reply, reply_of}
use Rattle.ts_model.specs.declared.commands.Command.{Command}
use Rattle.ts_model.specs.declared.commands.Command.TheVariants.{Create, Evolve, Write, Read, Delete, Consolidate, Vacuum, Unlock, Fragments}
use Rattle.ts_model.specs.declared.commands.FrameIn.{FrameIn}
use Rattle.ts_model.specs.declared.commands.Job.{Job}
use Rattle.ts_model.specs.declared.answers.Driven.TheVariants.{Done}
use Rattle.ts_model.specs.declared.answers.Outcome.{Outcome}
use Rattle.ts_model.specs.declared.answers.Outcome.TheVariants as outcome
use Rattle.ts_model.specs.declared.answers.Refusal.{Refusal}
use Rattle.ts_model.specs.declared.answers.Refusal.TheVariants as refusal
use Rattle.ts_model.specs.Codecs.{Codec, Spelled}
use Rattle.ts_model.specs.Commands.{create_refusal, frame_made}
use Rattle.ts_model.specs.Deeds.{History, frame_in, current_schema, schema_with}
use Rattle.ts_model.specs.Jobs.{looked_at, refused_before}
use Rattle.ts_model.specs.Stages.{lease_of, released}
use Rattle.ts_model.specs.States.{Exchange, get_all, get_frame, list_schemas, place_of, schema_key_in, schemas_in}
use Rattle.ts_model.specs.Told.{IsReplied, Replied, Told, exchange_of, held_told, history_told, trace_of}
use Rattle.ts_model.proofs.HistoryLaws.{frame_facts, frame_in-append, framed_by_schema, schema_facts, schema_with-append, current_is_with}
use Rattle.ts_model.proofs.ListLemmas.{Contains-cons, Contains-filter_map, Contains-here, Contains-nil, filter_map-Contains}
use Rattle.ts_model.proofs.Traces.{exchange_of_other, exchange_of_own, history_told_grows}
use Rattle.ts_law.specs.Courses.{EndsAlong, EndsUnder, Found, IsCause, IsGot, IsSegment, IsThere, MayEndAs, NotBegun, NotOwn, Removed, course_of, removal}
use Rattle.ts_law.specs.Ends.{IsTrueRefusal, ListedAt}
use Rattle.ts_law.specs.Refusals.{FindsArray, FindsFault, HasFailed, IsRefusedAs, IsRefusedFor, MadeAt, refusal_in}
use Rattle.ts_law.specs.Stands.{Stands}
use Rattle.ts_law.proofs.Declaring.{attrs_again, frame_again}
use Rattle.ts_law.proofs.Effects.{got, listed}
use Rattle.ts_law.proofs.HeldLemmas.{Holds-from_listed}
use Rattle.ts_law.proofs.ListSteps.{key_from_listed, there_from_listed}
use Rattle.ts_law.proofs.Short.{replied_at}

-- ---- places

-- a list falls apart at an item that it has
split_at : {X : Type 0} (xs : List X) (x : X) → Contains xs x → (front : List X) × (back : List X) × (xs ≡ front ++ x ∷ back)
split_at [] x at = absurd (Contains-nil x at)
split_at (y ∷ xs) x at = elim (Contains-cons y xs x at) [
  | inl same ↦ ([], xs, ap (λ z. z ∷ xs) same)
  | inr later ↦ let (front, back, is) = split_at xs x later in (y ∷ front, back, ap (λ l. y ∷ l) is)
]

-- a call was made by a job, or not
by_it : (number : ℕ) (o : Option ℕ) → (o ≡ Some number) ⊎ (o ≡ Some number → ⊥)
by_it number None = inr (λ same. none-some number same)
by_it number (Some other) = elim (cases_eq other number) [
  | inl same ↦ inl (ap Some same)
  | inr apart ↦ inr (λ same. apart (same_Some other number same))
]

-- an exchange of a job is a call of it
of_exchange : (number : ℕ) (e : Told) (x : Exchange) → exchange_of number e ≡ Some x → (e.job ≡ Some number) × (e.call ≡ x.call) × (e.reply ≡ x.reply)
of_exchange number e x is = elim (by_it number e.job) [
  | inl own ↦
      let same : record { call = e.call; reply = e.reply } ≡ x = same_Some _ x (sym (exchange_of_own number e own) ∙ is) in
      (own, ap (λ (y : Exchange). y.call) same, ap (λ (y : Exchange). y.reply) same)
  | inr other ↦ absurd (none-some x (sym (exchange_of_other number e other) ∙ is))
]

-- ---- replies

-- a store that served a call did not answer that it failed
put_serves : (b : Bool) → cond b reply.Taken reply.Made ≡ reply.Failed → ⊥
put_serves true is = cc
put_serves false is = cc

get_serves : (o : Option (List ℕ)) → part_reply o ≡ reply.Failed → ⊥
get_serves None is = cc
get_serves (Some bytes) is = cc

size_serves : (o : Option ℕ) → length_reply o ≡ reply.Failed → ⊥
size_serves None is = cc
size_serves (Some size) is = cc

answer_serves : (m : Held) (c : Call) → answer m c ≡ reply.Failed → ⊥
answer_serves m (call.Put n bytes) is = put_serves _ is
answer_serves m (call.Remove n) is = cc
answer_serves m (call.List p) is = cc
answer_serves m (call.Get n from len) is = get_serves _ is
answer_serves m (call.Size n) is = size_serves _ is

-- a call that was answered Failed has another fate than Done
failed_undone : (m : Held) (e : Told) → IsReplied m e → e.reply ≡ reply.Failed → e.fate ≢ fate.Done
failed_undone m e (inl none) failed done = true≢false (sym none.0 ∙ ap is_no_memory failed)
failed_undone m e (inr said) failed done = answer_serves m e.call (ap (reply_of m e.call) (sym done) ∙ sym said.0 ∙ failed)

-- ---- ends

-- the refusal of an end
one_refusal : (a b : Refusal) → outcome.Refused a ≡ outcome.Refused b → a ≡ b
one_refusal a b same = cc

-- an end that the removal of a lease leaves is one that was come to, or the fault by which the removal failed
was_refused : (lease : Name) (was : Outcome) (r : Refusal) (said : Reply) → outcome.Refused r ≡ released lease was said
    → (was ≡ outcome.Refused r) ⊎ ((said ≡ reply.Failed) × (r ≡ refusal.StoreFault (place_of (call.Remove lease))))
was_refused lease (outcome.Refused cause) r said is = inl (sym is)
was_refused lease outcome.OutOfMemory r said is = cc
was_refused lease was r reply.Failed is = inr (refl, one_refusal r (refusal.StoreFault (place_of (call.Remove lease))) is)
was_refused lease was r reply.Removed is = inl (sym is)
was_refused lease was r _ is = cc

-- ---- what a job found

module _ (spelled : Spelled) (opening : Held) (jobs : List Job) (past : History) (told : List Told) (replied : Replied opening told)
    (stands : (front back : List Told) → told ≡ front ++ back → Stands spelled (held_told opening front) (history_told jobs past front)) (number : ℕ) where
  -- the history after so many calls
  abbrev after : List Told → History
  after seen = history_told jobs past seen

  -- an exchange of the job has its place
  record Placed (x : Exchange) : Type 0 where
    before : List Told
    e : Told
    later : List Told
    place : told ≡ before ++ e ∷ later
    own : e.job ≡ Some number
    calls : e.call ≡ x.call
    replies : e.reply ≡ x.reply
    said : IsReplied (held_told opening before) e
    stood : Stands spelled (held_told opening before) (after before)
    -- what was there then is still there
    framed : (frame : Frame) → frame_in (after before) ≡ Some frame → frame_in (after told) ≡ Some frame
    declared : (k : Key) (s : Schema) → schema_with (after before) k ≡ Some s → schema_with (after told) k ≡ Some s

  placed : (x : Exchange) → Contains (trace_of number told) x → Placed x
  placed x at =
      let (e, among, is) = filter_map-Contains (exchange_of number) told x at in
      let (own, calls, replies) = of_exchange number e x is in
      let (before, later, place) = split_at told e among in
      let (more, grows) = history_told_grows jobs past before (e ∷ later) in
      let now : after told ≡ after before ++ more = ap (history_told jobs past) place ∙ grows in
      record {
        before = before;
        e = e;
        later = later;
        place = place;
        own = own;
        calls = calls;
        replies = replies;
        said = replied_at opening before e later (subst (Replied opening) place replied);
        stood = stands before (e ∷ later) place;
        framed = λ frame there. ap frame_in now ∙ frame_in-append (after before) more frame there;
        declared = λ k s there. ap (λ h. schema_with h k) now ∙ schema_with-append (after before) more k s there;
      }

  -- a call at its place
  abbrev made_at : (x : Exchange) (c : Call) → x.call ≡ c → is_no_memory x.reply ≡ false → (at : Placed x) → MadeAt told number c
  made_at x c is memory at = record { before = at.before; made = at.e; later = at.later; place = at.place; own = at.own; makes = at.calls ∙ is; memory = ap is_no_memory at.replies ∙ memory }

  -- a listing at its place
  abbrev listed_at : (p : Prefix) (names : List Name) (at : Placed (record { call = call.List p; reply = reply.Names names })) → ListedAt told number p
  listed_at p names at = record { before = at.before; listing = at.e; later = at.later; place = at.place; own = at.own; lists = at.calls; memory = ap is_no_memory at.replies }

  -- the names that a listing told were those that were held
  names_are : (p : Prefix) (names : List Name) (at : Placed (record { call = call.List p; reply = reply.Names names })) → names ≡ names_under p (held_told opening at.before)
  names_are p names at = listed (held_told opening at.before) at.e p names at.calls at.said at.replies

  -- the key of the schema there is that of the schema that held where a listing was made
  there_is : (names : List Name) (b : ℕ) (at : Placed (record { call = list_schemas; reply = reply.Names names }))
      → schema_at (schemas_in names) b ≡ option_map (λ (s : Schema). s.key) (current_schema (after at.before) b)
  there_is names b at =
      ap (λ ns. schema_at (schemas_in ns) b) (names_are Schemas names at)
      ∙ there_from_listed spelled (held_told opening at.before) (after at.before) at.stood b

  -- the bytes that a get of a whole object told are those that were held, where it is short
  whole_got : (n : Name) (bytes : List ℕ) (at : Placed (record { call = get_all n; reply = reply.Bytes bytes }))
      → ((object : List ℕ) → map.get (held_told opening at.before) n ≡ Some object → IsShort object) → map.get (held_told opening at.before) n ≡ Some bytes
  whole_got n bytes at short =
      let (object, held, part) = (got (held_told opening at.before) at.e n 0 (2 ^ 64 - 1) at.calls at.said).bytes bytes at.replies in
      let few = short object held in
      held ∙ ap Some (sym (part ∙ take_all (2 ^ 64 - 1) object (omega (arith, few))))

  -- a get of the frame told the frame of the history
  frame_got : (bytes : List ℕ) (at : Placed (record { call = get_frame; reply = reply.Bytes bytes })) → (frame : Frame) × (frame_in (after at.before) ≡ Some frame) × (bytes ≡ frame_object frame) × (frame_of bytes ≡ Ok frame)
  frame_got bytes at = by_frame (frame_in (after at.before)) refl
    where
      m : Held
      m = held_told opening at.before

      held : map.get m name.Domain ≡ Some bytes
      held = whole_got name.Domain bytes at (at.stood).short_frame

      by_frame : (o : Option Frame) → frame_in (after at.before) ≡ o → (frame : Frame) × (frame_in (after at.before) ≡ Some frame) × (bytes ≡ frame_object frame) × (frame_of bytes ≡ Ok frame)
      by_frame None none = absurd (none-some bytes (sym (ap (option_map frame_object) none) ∙ sym (at.stood).frame ∙ held))
      by_frame (Some frame) some =
          let same : frame_object frame ≡ bytes = same_Some _ _ (sym (ap (option_map frame_object) some) ∙ sym (at.stood).frame ∙ held) in
          let short : IsShort (frame_object frame) = subst IsShort (sym same) ((at.stood).short_frame bytes held) in
          (frame, some, sym same, subst (λ b. frame_of b ≡ Ok frame) same (frame_again frame (frame_facts (after at.before) frame (at.stood).history some) short))

  -- a get of a schema told a schema of the history
  schema_got : (k : Key) (bytes : List ℕ) (at : Placed (record { call = get_all (name.Schema k); reply = reply.Bytes bytes })) → (s : Schema) × (schema_with (after at.before) k ≡ Some s) × (schema_of bytes ≡ Ok s.attrs)
  schema_got k bytes at = by_schema (schema_with (after at.before) k) refl
    where
      m : Held
      m = held_told opening at.before

      held : map.get m (name.Schema k) ≡ Some bytes
      held = whole_got (name.Schema k) bytes at ((at.stood).short_schemas k)

      by_schema : (o : Option Schema) → schema_with (after at.before) k ≡ o → (s : Schema) × (schema_with (after at.before) k ≡ Some s) × (schema_of bytes ≡ Ok s.attrs)
      by_schema None none = absurd (none-some bytes (sym (ap (option_map (λ (s : Schema). schema_object s.attrs)) none) ∙ sym ((at.stood).schemas k) ∙ held))
      by_schema (Some s) some =
          let same : schema_object s.attrs ≡ bytes = same_Some _ _ (sym (ap (option_map (λ (s : Schema). schema_object s.attrs)) some) ∙ sym ((at.stood).schemas k) ∙ held) in
          let short : IsShort (schema_object s.attrs) = subst IsShort (sym same) ((at.stood).short_schemas k bytes held) in
          (s, some, subst (λ b. schema_of b ≡ Ok s.attrs) same (attrs_again s.attrs (schema_facts (after at.before) k s (at.stood).history some).0 short))

  module _ {F : Type 0} (codec : Codec F) (job : Job) (found : Found) where
    -- the schema that a job got held where it looks as it listed the schemas, in the array whose frame it got
    fault_found : (trace : List Exchange) → ((x : Exchange) → Contains trace x → Contains (trace_of number told) x) → (r : Refusal) → IsGot job found trace → refusal_in found.frame (found.current).attrs job.command ≡ Some r
        → FindsFault jobs past told number job r
    fault_found trace among r is_got refused = by_there (current_schema h b) refl
      where
        b : ℕ
        b = looked_at job

        at : Placed (record { call = list_schemas; reply = reply.Names (is_got.key).names })
        at = placed _ (among _ (is_got.key).listed)

        h : History
        h = after at.before

        key_is : option_map (λ (s : Schema). s.key) (current_schema h b) ≡ Some (found.current).key
        key_is = sym (there_is (is_got.key).names b at) ∙ (is_got.key).newest

        by_there : (o : Option Schema) → current_schema h b ≡ o → FindsFault jobs past told number job r
        by_there None none = absurd (none-some _ (sym (ap (option_map (λ (s : Schema). s.key)) none) ∙ key_is))
        by_there (Some s) some =
            let (bytes, told_it, spells) = is_got.schema in
            let there_at = placed _ (among _ told_it) in
            let (t, declared, reads) = schema_got (found.current).key bytes there_at in
            let frame_at = placed _ (among _ is_got.frame_got) in
            let (frame, framed, object, frame_reads) = frame_got is_got.frame_bytes frame_at in
            let same_key : s.key ≡ (found.current).key = same_Some _ _ (sym (ap (option_map (λ (s : Schema). s.key)) some) ∙ key_is) in
            let with : schema_with h s.key ≡ Some s = current_is_with h b s (at.stood).history some in
            let same : s ≡ t = same_Some s t (sym (at.declared s.key s with) ∙ ap (schema_with (after told)) same_key ∙ there_at.declared (found.current).key t declared) in
            let attrs : (found.current).attrs ≡ s.attrs = same_ok (schema_of bytes) _ _ spells reads ∙ ap (λ (u : Schema). u.attrs) (sym same) in
            let (own, own_framed) = framed_by_schema h s.key s (at.stood).history with in
            let one : found.frame ≡ own = same_ok (frame_of is_got.frame_bytes) _ _ is_got.frame_is frame_reads ∙ same_Some frame own (sym (frame_at.framed frame framed) ∙ at.framed own own_framed) in
            record {
              schemas = listed_at Schemas _ at;
              current = s;
              holds = some;
              frame = own;
              framed = own_framed;
              refused = subst (λ f. refusal_in f s.attrs job.command ≡ Some r) one (subst (λ a. refusal_in found.frame a job.command ≡ Some r) attrs refused);
            }

    -- a create that its array is there for found it
    array_found : (trace : List Exchange) → ((x : Exchange) → Contains trace x → Contains (trace_of number told) x) → (last : Exchange) → Contains trace last → (f : FrameIn) → IsThere f last → FindsArray jobs past told number f
    array_found trace among last at_last f (inl (bytes, is, other)) =
        let at = placed _ (among _ (subst (Contains trace) is at_last)) in
        let (frame, framed, object, reads) = frame_got bytes at in
        inl (made_at _ get_frame refl refl at, frame, framed, λ same. true≢false (sym ((bytes_eq-Decides (frame_object (frame_made f)) bytes).1 (ap frame_object (sym same) ∙ sym object)) ∙ other))
    array_found trace among last at_last f (inr (names, is, some)) = by_names names (placed _ (among _ (subst (Contains trace) is at_last))) some
      where
        under_schemas : (n : Name) → is_under Schemas n ≡ true → (k : Key) × (schema_key_in n ≡ Some k)
        under_schemas (name.Schema k) under = (k, refl)
        under_schemas _ under = absurd (true≢false (sym under))

        by_names : (names : List Name) → Placed (record { call = list_schemas; reply = reply.Names names }) → nat_lt 0 (length names) ≡ true → FindsArray jobs past told number f
        by_names [] at some = let none = ltb-true 0 0 some in absurd (omega (arith, none))
        by_names (n ∷ names) at some =
            let m = held_told opening at.before in
            let same = names_are Schemas (n ∷ names) at in
            let here : Contains (names_under Schemas m) n = subst (λ ns. Contains ns n) same (Contains-here n names) in
            let (k, keyed) = under_schemas n (Holds-from_listed Schemas m n here).1 in
            let (s, among_them, is_key) = key_from_listed spelled m (after at.before) at.stood k (Contains-filter_map schema_key_in (names_under Schemas m) n k here keyed) in
            inr (listed_at Schemas _ at, s, among_them)

    -- a refusal has its cause in the history, where it has one in the calls and their replies
    cause_found : (trace : List Exchange) → ((x : Exchange) → Contains trace x → Contains (trace_of number told) x) → (last : Exchange) → Contains trace last → (r : Refusal)
        → IsTrueRefusal spelled opening jobs past told number job r → IsCause codec job found trace last r → IsRefusedFor spelled opening jobs past told number job r
    cause_found trace among last at_last refusal.ArrayExists is_true (f, creates, there) = (f, creates, array_found trace among last at_last f there)
    cause_found trace among last at_last (refusal.NoSchema at) is_true (works, names, is, looks, none) =
        let placed_at = placed _ (among _ (subst (Contains trace) is at_last)) in
        record { works = works; looks = looks; schemas = listed_at Schemas _ placed_at; none = no_schema (current_schema (after placed_at.before) at) (sym (there_is names at placed_at) ∙ none) }
      where
        no_schema : (o : Option Schema) → option_map (λ (s : Schema). s.key) o ≡ None → o ≡ None
        no_schema None is = refl
        no_schema (Some s) is = absurd (none-some _ (sym is))
    cause_found trace among last at_last (refusal.Leased other) is_true (own, has, names, is, first) =
        let at = placed _ (among _ (subst (Contains trace) is at_last)) in
        record { own = own; has = has; leases = listed_at Leases _ at; first = ap (λ ns. verdict_in ns own) (sym (names_are Leases names at)) ∙ first }
    cause_found trace among last at_last (refusal.StoreFault p) is_true (speaks, failed) =
        let at = placed last (among last at_last) in
        record { call = last.call; speaks = speaks; at = made_at last last.call refl (ap is_no_memory failed) at; failed = at.replies ∙ failed; undone = failed_undone (held_told opening at.before) at.e at.said (at.replies ∙ failed) }
    cause_found trace among last at_last (refusal.NothingToDo count) is_true is = is_true.1
    cause_found trace among last at_last (refusal.Taken n) is_true is = is_true
    cause_found trace among last at_last (refusal.Missing n) is_true is = is_true
    cause_found trace among last at_last (refusal.Damaged n at) is_true is = is_true
    cause_found trace among last at_last r is_true is = by_command job.command refl is.1
      where
        by_command : (c : Command) → job.command ≡ c → refusal_in found.frame (found.current).attrs c ≡ Some r → IsRefusedAs jobs past told number job r c
        by_command (Create made) command refused = absurd (none-some r refused)
        by_command c command refused = fault_found trace among r is.0 is.1

  -- ---- refused before the first call

  -- a create that is refused for itself
  create_refused : (job : Job) (made : FrameIn) (r : Refusal) → job.command ≡ Create made → create_refusal made ≡ Some r → trace_of number told ≡ [] → IsRefusedFor spelled opening jobs past told number job r
  create_refused job made r creates refused none = by_faults (domain_fault made.dims) (schema_fault made.dims made.attrs) refused
    where
      as_create : (q : Refusal) → q ≡ r → IsRefusedAs jobs past told number job q job.command
      as_create q same = subst (IsRefusedAs jobs past told number job q) (sym creates) (refused ∙ ap Some (sym same), none)

      by_faults : (d : Option DomainFault) (s : Option SchemaFault) → option_or (option_map refusal.DomainBad d) (option_map refusal.SchemaBad s) ≡ Some r → IsRefusedFor spelled opening jobs past told number job r
      by_faults (Some fault) s is = let same = same_Some (refusal.DomainBad fault) r is in subst (IsRefusedFor spelled opening jobs past told number job) same (as_create (refusal.DomainBad fault) same)
      by_faults None (Some fault) is = let same = same_Some (refusal.SchemaBad fault) r is in subst (IsRefusedFor spelled opening jobs past told number job) same (as_create (refusal.SchemaBad fault) same)
      by_faults None None is = absurd (none-some r is)

  before_refused : (job : Job) (r : Refusal) (c : Command) → job.command ≡ c → refused_before c ≡ Some r → trace_of number told ≡ [] → IsRefusedFor spelled opening jobs past told number job r
  before_refused job r (Create made) is refused none = create_refused job made r is refused none
  before_refused job r (Evolve change) is refused none = absurd (none-some r refused)
  before_refused job r (Write w) is refused none = absurd (none-some r refused)
  before_refused job r (Read from to query) is refused none = absurd (none-some r refused)
  before_refused job r (Delete text) is refused none = absurd (none-some r refused)
  before_refused job r (Consolidate from to limits) is refused none = absurd (none-some r refused)
  before_refused job r Vacuum is refused none = absurd (none-some r refused)
  before_refused job r (Unlock seed lane) is refused none = absurd (none-some r refused)
  before_refused job r Fragments is refused none = absurd (none-some r refused)

  -- ---- the end

  -- a job that ended refused, by the calls of its course, is refused for its cause
  pub refused_for : {F : Type 0} (codec : Codec F) (job : Job) (r : Refusal) → IsTrueRefusal spelled opening jobs past told number job r → IsSegment codec job (trace_of number told) (Done (outcome.Refused r)) → IsRefusedFor spelled opening jobs past told number job r
  refused_for codec job r is_true segment = by_refusal (refused_before job.command) refl segment.ends
    where
      found : Found
      found = segment.found

      by_along : (trace : List Exchange) → ((x : Exchange) → Contains trace x → Contains (trace_of number told) x) → EndsAlong codec job found (course_of codec job found) trace (outcome.Refused r) → IsRefusedFor spelled opening jobs past told number job r
      by_along trace among (last, at, cause) = cause_found codec job found trace among last (subst (λ t. Contains t last) (sym at.parts) (Contains-push at.front last)) r is_true cause

      by_lease : (o : Option Name) → EndsUnder codec job found o (trace_of number told) (outcome.Refused r) → IsRefusedFor spelled opening jobs past told number job r
      by_lease None ends = by_along (trace_of number told) (λ x at. at) ends
      by_lease (Some lease) (NotBegun none is) = cc
      by_lease (Some lease) (NotOwn only is) = absurd (subst (IsTrueRefusal spelled opening jobs past told number job) (one_refusal r (refusal.Taken lease) is) is_true)
      by_lease (Some lease) (Removed front said was parts put heeds ended is) = elim (was_refused lease was r said is) [
        | inl same ↦
            by_along front (λ x at. subst (λ t. Contains t x) (sym parts) (Contains-append_left front (removal lease said ∷ []) x at))
            (subst (EndsAlong codec job found (course_of codec job found) front) same ended)
        | inr (failed, is_fault) ↦
            let at = placed (removal lease said) (subst (λ t. Contains t (removal lease said)) (sym parts) (Contains-push front (removal lease said))) in
            let fault : HasFailed told number (place_of (call.Remove lease)) = record {
              call = call.Remove lease;
              speaks = refl;
              at = made_at (removal lease said) (call.Remove lease) refl (ap is_no_memory failed) at;
              failed = at.replies ∙ failed;
              undone = failed_undone (held_told opening at.before) at.e at.said (at.replies ∙ failed);
            } in
            subst (IsRefusedFor spelled opening jobs past told number job) (sym is_fault) fault
      ]

      by_refusal : (o : Option Refusal) → refused_before job.command ≡ o → MayEndAs codec job found (trace_of number told) (outcome.Refused r) o → IsRefusedFor spelled opening jobs past told number job r
      by_refusal None is ends = by_lease (lease_of job) ends
      by_refusal (Some q) is (none, inl same) = before_refused job r job.command refl (is ∙ ap Some (sym (one_refusal r q same))) none
      by_refusal (Some q) is (none, inr same) = let other : outcome.Refused r ≡ outcome.OutOfMemory = same in cc
