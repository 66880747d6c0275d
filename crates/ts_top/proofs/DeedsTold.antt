-- What a command's own deeds are, and what an end tells of them.
use Rattle.std.proofs.Common.{◌≡◌, ◌⊎◌, inl, inr, ℕ, ◌<◌, ◌^◌, List, [], ◌∷◌, ◌++◌, Option, Some, None, Result, Ok, Err, Bool, true, false, cond, refl, sym, ◌∙◌, ap, subst}
use Rattle.std.specs.Prelude.{slice_get, All, option_map, option_and_then, option_to_list, ⊤}
use Rattle.std.proofs.lemmas.Option.{none-some, same_Some}
use Rattle.ts_base.specs.Held.{Held}
use Rattle.ts_base.specs.declared.keys.Key.{Key}
use Rattle.ts_base.specs.declared.heads.Cell.{Cell}
use Rattle.ts_base.specs.declared.names.CommitKind.TheVariants.{Wrt, Del}
use Rattle.ts_base.specs.declared.names.Name.{Name}
use Rattle.ts_base.specs.declared.names.Name.TheVariants as name
use Rattle.ts_commit.specs.declared.vacs.Limits.{Limits}
use Rattle.ts_schema.specs.declared.frames.Frame.{Frame}
use Rattle.ts_schema.specs.declared.schemas.Schema.{Schema}
use Rattle.ts_schema.specs.Evolutions.{evolved_attrs, evolution_fault}
use Rattle.ts_schema.specs.declared.faults.SchemaFault.{SchemaFault}
use Rattle.ts_cond.specs.Tests.{Condition}
use Rattle.ts_store.specs.declared.call.Call.{Call}
use Rattle.ts_store.specs.declared.call.Call.TheVariants as call
use Rattle.ts_store.specs.Calls.{is_no_memory}
use Rattle.ts_model.specs.declared.commands.Job.{Job}
use Rattle.ts_model.specs.declared.commands.Command.{Command}
use Rattle.ts_model.specs.declared.commands.Command.TheVariants.{Create, Evolve, Write, Delete, Consolidate}
use Rattle.ts_model.specs.declared.answers.Driven.{Driven}
use Rattle.ts_model.specs.declared.answers.Outcome.{Outcome}
use Rattle.ts_model.specs.declared.answers.Outcome.TheVariants as outcome
use Rattle.ts_model.specs.declared.answers.Refusal.{Refusal}
use Rattle.ts_model.specs.declared.answers.Refusal.TheVariants as refusal
use Rattle.ts_model.specs.declared.commands.FrameIn.{FrameIn}
use Rattle.ts_model.specs.declared.commands.WriteIn.{WriteIn}
use Rattle.ts_model.specs.declared.deeds.Deed.{Deed}
use Rattle.ts_model.specs.declared.deeds.Deed.TheVariants.{Framed, Declared, Wrote, Erased}
use Rattle.ts_model.specs.declared.deeds.Written.{Written}
use Rattle.ts_model.specs.declared.deeds.Deletion.{Deletion}
use Rattle.ts_model.specs.Commands.{create_refusal, frame_made, laid}
use Rattle.ts_model.specs.Queries.{delete_condition}
use Rattle.ts_model.specs.Deeds.{History, IsNewKey, frame_in, schemas, current_schema}
use Rattle.ts_base.specs.declared.names.Prefix.TheVariants.{Schemas}
use Rattle.ts_model.specs.Jobs.{frag_of_job, key_of, looked_at, looks_at, schema_of_job, written_as, deletion_as}
use Rattle.ts_model.specs.States.{made_by}
use Rattle.ts_model.specs.Told.{Told, trace_of, deed_in, deed_of, declared_by, written_by, written_in, deleted_by, deleted_in, schema_used, schemas_found, cells_of, condition_of, history_told, Replied, Suits}
use Rattle.ts_model.proofs.HistoryLaws.{schemas-append}
use Rattle.ts_base.specs.declared.keys.FragKey.{FragKey}
use Rattle.ts_base.specs.declared.names.Prefix.{Prefix}
use Rattle.ts_law.specs.Ends.{FindsNoArray, IsCreated, IsDeleted, IsEvolved, IsUndone, IsWritten, ListedAt}
use Rattle.ts_law.specs.Fresh.{IsFreshSeed, AreJobsOf, Numbered, lanes_of}
use Rattle.ts_law.specs.Lanes.{IsOwned, IsWithin, InTurn}
use Rattle.ts_law.specs.Runs.{AreDriven}
use Rattle.ts_law.specs.Stands.{IsNoLease}
use Rattle.ts_law.proofs.JournalHistories.{FitsIn}
use Rattle.ts_law.proofs.LineJobs.{AreInOrder}
use Rattle.ts_law.proofs.LineLanes.{lines_take}
use Rattle.ts_law.proofs.Turns.{TakeTheirLane}
use Rattle.ts_law.proofs.TrueRuns.{kept_first, right_where_put, works_where_used}
use Rattle.ts_top.specs.Promise.{Extends, HasDone, HeldOnce, IsDeedOf, IsStored}
use Rattle.ts_top.specs.Runners.{run_codec, run_spelled, run_tracks}
use Rattle.ts_top.proofs.RunCodec.{run_laws}
use Rattle.ts_top.proofs.Places.{goes_on}

-- of a list without items the first part has none
no_front : {X : Type 0} (front back : List X) → front ++ back ≡ [] → front ≡ []
no_front [] back is = refl
no_front (x ∷ front) back is = cc

-- an object whose put is a deed is no lease
pub deed_no_lease : (h : History) (job : Job) (found : Option (List Key)) (n : Name) (d : Deed) → deed_of h job found n ≡ Some d → IsNoLease n
deed_no_lease h job found (name.Lease k mode) d is = absurd (none-some d is)
deed_no_lease h job found _ d is = tt

-- ---- what an end tells of a deed

-- a job whose calls were all made since a history
module _ (jobs : List Job) (past : History) (told : List Told) (number : ℕ) (h0 : History)
    (since : (before : List Told) (x : Told) (later : List Told) → told ≡ before ++ x ∷ later → x.job ≡ Some number → is_no_memory x.reply ≡ false → Extends h0 (history_told jobs past before)) where
  -- the history after all
  abbrev then : History
  then = history_told jobs past told

  listed_since : (prefix : Prefix) (at : ListedAt told number prefix) → Extends h0 (history_told jobs past at.before)
  listed_since prefix at = since at.before at.listing at.later at.place at.own at.memory

  -- a schema that a job found as it listed them held since then
  pub held_once : (at : ListedAt told number Schemas) (k : Key) (there : Schema) → IsNewKey (history_told jobs past at.before) k → current_schema (history_told jobs past at.before) k.t ≡ Some there → HeldOnce h0 then k there
  held_once at k there new holds = (history_told jobs past at.before, listed_since Schemas at, goes_on jobs past at.before (at.listing ∷ at.later) told at.place, new, holds)

  -- where a create found no array there was no schema before it
  pub none_before : (made : FrameIn) → FindsNoArray jobs past told number made → schemas h0 ≡ []
  none_before made (inl (at, is_made, nothing)) =
      let (deeds, on) = since at.before at.made at.later at.place at.own at.memory in
      ap schemas (no_front h0 deeds (sym on ∙ nothing))
  none_before made (inr (at, none)) =
      let (deeds, on) = listed_since Schemas at in
      no_front (schemas h0) (schemas deeds) (sym (schemas-append h0 deeds) ∙ sym (ap schemas on) ∙ none)

  module _ (job : Job) where
    -- what an end tells of the deed of the job's command
    abbrev DoneOf : Outcome → Command → Type 0
    DoneOf end command = HasDone h0 then (key_of job) end command

    pub created_tells : IsCreated jobs past told number job → DoneOf outcome.Created job.command
    created_tells is = subst (DoneOf outcome.Created) (sym is.creates) (none_before is.made is.found_none, is.sound, is.framed, is.declared)

    pub evolved_tells : (k : Key) → k ≡ key_of job → IsEvolved jobs past told number job → DoneOf (outcome.Evolved k) job.command
    evolved_tells k same is = subst (DoneOf (outcome.Evolved k)) (sym is.evolves) (same, is.current, held_once is.schemas (key_of job) is.current is.undone is.holds, is.frame, is.framed, is.sound, is.declared)

    pub written_tells : (f : FragKey) → f ≡ frag_of_job job → IsWritten jobs past told number job → DoneOf (outcome.Written f) job.command
    written_tells f same is =
        subst (DoneOf (outcome.Written f)) (sym is.writes_them)
        (same, is.current, held_once is.schemas (key_of job) is.current is.undone is.holds, is.frame, is.framed, is.cells, is.lays, is.written)

    pub deleted_tells : (f : FragKey) → f ≡ frag_of_job job → IsDeleted jobs past told number job → DoneOf (outcome.Deleted f) job.command
    deleted_tells f same is =
        subst (DoneOf (outcome.Deleted f)) (sym is.deletes)
        (same, is.current, held_once is.schemas (key_of job) is.current is.undone is.holds, is.frame, is.framed, is.condition, is.says, is.erased)

-- ---- whose deeds came

-- what an answer was made of
pub and_then_some : {A B : Type 0} (f : A → Option B) (o : Option A) (b : B) → option_and_then f o ≡ Some b → (a : A) × (o ≡ Some a) × (f a ≡ Some b)
and_then_some f None b is = absurd (none-some b is)
and_then_some f (Some a) b is = (a, refl, is)

map_some : {A B : Type 0} (f : A → B) (o : Option A) (b : B) → option_map f o ≡ Some b → (a : A) × (o ≡ Some a) × (f a ≡ b)
map_some f None b is = absurd (none-some b is)
map_some f (Some a) b is = (a, refl, same_Some (f a) b is)

cells_ok : (r : Result (List Cell) Refusal) (cells : List Cell) → cells_of r ≡ Some cells → r ≡ Ok cells
cells_ok (Ok x) cells is = ap Ok (same_Some x cells is)
cells_ok (Err r) cells is = absurd (none-some cells is)

condition_ok : (r : Result Condition Refusal) (condition : Condition) → condition_of r ≡ Some condition → r ≡ Ok condition
condition_ok (Ok x) condition is = ap Ok (same_Some x condition is)
condition_ok (Err r) condition is = absurd (none-some condition is)

-- a change that is not refused has no fault
no_fault : (o : Option SchemaFault) → option_map refusal.SchemaBad o ≡ None → o ≡ None
no_fault None is = refl
no_fault (Some fault) is = absurd (none-some (refusal.SchemaBad fault) (sym is))

-- the commands that work in a schema there, which they look for at their stamp
abbrev WorksIn : Command → Type 0
WorksIn (Evolve change) = ⊤
WorksIn (Write columns) = ⊤
WorksIn (Delete text) = ⊤
WorksIn _ = ⊥

no_create : (c : Command) → WorksIn c → (f : FrameIn) → c ≡ Create f → ⊥
no_create (Evolve change) works f is = cc
no_create (Write columns) works f is = cc
no_create (Delete text) works f is = cc
no_create _ works f is = works

no_merge : (c : Command) → WorksIn c → (from to : ℕ) (limits : Limits) → c ≡ Consolidate from to limits → ⊥
no_merge (Evolve change) works from to limits is = cc
no_merge (Write columns) works from to limits is = cc
no_merge (Delete text) works from to limits is = cc
no_merge _ works from to limits is = works

looks_here : (job : Job) (c : Command) → WorksIn c → looks_at job c ≡ job.at
looks_here job (Evolve change) works = refl
looks_here job (Write columns) works = refl
looks_here job (Delete text) works = refl
looks_here job _ works = absurd works

-- a deed that a command may do over a history, by what it found.
-- That is no array for a create, and for another command the schema that it works in.
abbrev pub IsDeedBy : (FrameIn → Type 0) → (Schema → Type 0) → History → Key → Command → Deed → Type 0
IsDeedBy NoArray Finds h k (Create made) (Framed frame) = (create_refusal made ≡ None) × (frame ≡ frame_made made)
IsDeedBy NoArray Finds h k (Create made) (Declared s) = NoArray made × (create_refusal made ≡ None) × (s ≡ record { key = k; attrs = made.attrs })
IsDeedBy NoArray Finds h k (Evolve change) (Declared s) =
    (current : Schema) × Finds current × (frame : Frame) × (frame_in h ≡ Some frame)
    × (evolution_fault frame.domain current.attrs change ≡ None) × (s ≡ record { key = k; attrs = evolved_attrs current.attrs change })
IsDeedBy NoArray Finds h k (Write columns) (Wrote w) =
    (current : Schema) × Finds current × (frame : Frame) × (frame_in h ≡ Some frame)
    × (cells : List Cell) × (laid frame current.attrs columns ≡ Ok cells) × (w ≡ record { key = k; schema = current.key; cells = cells })
IsDeedBy NoArray Finds h k (Delete text) (Erased e) =
    (current : Schema) × Finds current × (frame : Frame) × (frame_in h ≡ Some frame)
    × (condition : Condition) × (delete_condition frame current.attrs text ≡ Ok condition) × (e ≡ record { key = k; cond = condition })
IsDeedBy NoArray Finds h k _ _ = ⊥

-- where no schema was there before a create, and one held for another command, that is a deed of the command
deed_since : (before h : History) (k : Key) (c : Command) (d : Deed) → IsDeedBy (λ made. schemas before ≡ []) (HeldOnce before h k) h k c d → IsDeedOf before h k c d
deed_since before h k (Create made) (Framed frame) is = is
deed_since before h k (Create made) (Declared s) is = is
deed_since before h k (Evolve change) (Declared s) is = is
deed_since before h k (Write columns) (Wrote w) is = is
deed_since before h k (Delete text) (Erased e) is = is
deed_since before h k _ _ is = absurd is

module _ (NoArray : FrameIn → Type 0) (Finds : Schema → Type 0) (h : History) (job : Job) (found : Option (List Key)) where
  -- the schema that the job uses is the one that it found, and the job is not refused there
  abbrev Held_current : Command → Type 0
  Held_current c = WorksIn c → (there : Schema) → schema_used h job found ≡ Some there → Finds there × FitsIn h c there

  -- a create that puts an object is a right one, and but for the frame it found no array
  abbrev Right_where : Name → Command → Type 0
  Right_where n c = (made : FrameIn) → c ≡ Create made → (create_refusal made ≡ None) × ((n ≡ name.Domain → ⊥) → NoArray made)

  -- a deed of the command, by these
  abbrev Own : Command → Deed → Type 0
  Own c d = IsDeedBy NoArray Finds h (key_of job) c d

  framed_own : (c : Command) (d : Deed) → Right_where name.Domain c → option_map (λ f. Framed (frame_made f)) (made_by c) ≡ Some d → Own c d
  framed_own (Create made) d right is = subst (Own (Create made)) (same_Some (Framed (frame_made made)) d is) ((right made refl).0, refl)
  framed_own _ d right is = absurd (none-some d is)

  no_domain : (k : Key) → name.Schema k ≡ name.Domain → ⊥
  no_domain k is = cc

  declared_own : (k : Key) (c : Command) (d : Deed) → Right_where (name.Schema k) c → Held_current c → option_map Declared (declared_by h job found c) ≡ Some d → Own c d
  declared_own k (Create made) d right held is =
      let (sound, none) = right made refl in
      subst (Own (Create made)) (same_Some (Declared (schema_of_job job made.attrs)) d is) (none (no_domain k), sound, refl)
  declared_own k (Evolve change) d right held is =
      let (s, at, same) = map_some Declared (declared_by h job found (Evolve change)) d is in
      let (there, used, made) = map_some (λ (t : Schema). schema_of_job job (evolved_attrs t.attrs change)) (schema_used h job found) s at in
      let (once, (works, frame, framed, unrefused)) = held tt there used in
      subst (Own (Evolve change)) same (there, once, frame, framed, no_fault (evolution_fault frame.domain there.attrs change) unrefused, sym made)
  declared_own k _ d right held is = absurd (none-some d is)

  written_from : (columns : WriteIn) (s : Option Schema) (frame : Option Frame) (w : Written) → written_in job columns s frame ≡ Some w
      → (f : Frame) × (frame ≡ Some f) × (there : Schema) × (s ≡ Some there) × (cells : List Cell) × (laid f there.attrs columns ≡ Ok cells) × (w ≡ written_as job there.key cells)
  written_from columns (Some there) (Some f) w is =
      let (cells, lays, same) = map_some (written_as job there.key) (cells_of (laid f there.attrs columns)) w is in
      (f, refl, there, refl, cells, cells_ok (laid f there.attrs columns) cells lays, sym same)
  written_from columns (Some there) None w is = absurd (none-some w is)
  written_from columns None frame w is = absurd (none-some w is)

  written_own : (c : Command) (d : Deed) → Held_current c → option_map Wrote (written_by h job found c) ≡ Some d → Own c d
  written_own (Write columns) d held is =
      let (w, at, same) = map_some Wrote (written_by h job found (Write columns)) d is in
      let (f, framed, there, used, cells, lays, made) = written_from columns (schema_used h job found) (frame_in h) w at in
      subst (Own (Write columns)) same (there, (held tt there used).0, f, framed, cells, lays, made)
  written_own _ d held is = absurd (none-some d is)

  erased_from : (text : List ℕ) (s : Option Schema) (frame : Option Frame) (e : Deletion) → deleted_in job text s frame ≡ Some e
      → (f : Frame) × (frame ≡ Some f) × (there : Schema) × (s ≡ Some there) × (condition : Condition) × (delete_condition f there.attrs text ≡ Ok condition) × (e ≡ deletion_as job condition)
  erased_from text (Some there) (Some f) e is =
      let (condition, says, same) = map_some (deletion_as job) (condition_of (delete_condition f there.attrs text)) e is in
      (f, refl, there, refl, condition, condition_ok (delete_condition f there.attrs text) condition says, sym same)
  erased_from text (Some there) None e is = absurd (none-some e is)
  erased_from text None frame e is = absurd (none-some e is)

  erased_own : (c : Command) (d : Deed) → Held_current c → option_map Erased (deleted_by h job found c) ≡ Some d → Own c d
  erased_own (Delete text) d held is =
      let (e, at, same) = map_some Erased (deleted_by h job found (Delete text)) d is in
      let (f, framed, there, used, condition, says, made) = erased_from text (schema_used h job found) (frame_in h) e at in
      subst (Own (Delete text)) same (there, (held tt there used).0, f, framed, condition, says, made)
  erased_own _ d held is = absurd (none-some d is)

  -- the deed of an object that a job puts is one of its command
  put_own : (n : Name) (d : Deed) → Right_where n job.command → Held_current job.command → deed_of h job found n ≡ Some d → Own job.command d
  put_own name.Domain d right held is = framed_own job.command d right is
  put_own (name.Schema k) d right held is = declared_own k job.command d right held is
  put_own (name.Commit f Wrt) d right held is = written_own job.command d held is
  put_own (name.Commit f Del) d right held is = erased_own job.command d held is
  put_own _ d right held is = absurd (none-some d is)

  call_own : (c : Call) (d : Deed) → ((n : Name) (bytes : List ℕ) → c ≡ call.Put n bytes → Right_where n job.command × Held_current job.command) → deed_in h job found c ≡ Some d → Own job.command d
  call_own (call.Put n bytes) d held is = let (right, there) = held n bytes refl in put_own n d right there is
  call_own _ d held is = absurd (none-some d is)

-- a call appends no deed, or the one that is told of it
pub one_grown : (changed : Bool) (o : Option Deed) → (cond changed (option_to_list o) [] ≡ []) ⊎ ((d : Deed) × (o ≡ Some d) × (cond changed (option_to_list o) [] ≡ d ∷ []))
one_grown true (Some d) = inr (d, refl, refl)
one_grown true None = inl refl
one_grown false o = inl refl

pub none_split : (front back : List Deed) (d : Deed) → [] ≡ front ++ d ∷ back → ⊥
none_split [] back d is = cc
none_split (x ∷ front) back d is = cc

-- ---- the deed of a call

module _ (gives : ℕ → Bool) (seed : ℕ) (items : List Numbered) (jobs : List Job) (past : History) (m : Held) (told : List Told) (results : List (Driven Outcome)) (are : AreJobsOf gives seed items jobs) (order : AreInOrder items) (stands : IsStored m past)
    (fresh : IsFreshSeed m past seed) (seed_fits : seed < 2 ^ 64) (replied : Replied m told) (suit : All Suits told) (owned : All IsOwned told) (within : All (IsWithin jobs) told) (in_turn : InTurn (lanes_of items) told)
    (driven : AreDriven run_codec jobs results told) (seen rest : List Told) (e : Told) (place : told ≡ seen ++ e ∷ rest) (i : ℕ) (job : Job) (is_job : slice_get jobs i ≡ Some job) (mine : e.job ≡ Some i) where
  -- the deed of a call of a job is one of its command, by what the job found before the call
  pub deed_by : (NoArray : FrameIn → Type 0) (Finds : Schema → Type 0) → ((made : FrameIn) → FindsNoArray jobs past seen i made → NoArray made)
      → ((at : ListedAt seen i Schemas) (there : Schema) → IsUndone (history_told jobs past at.before) job → current_schema (history_told jobs past at.before) job.at ≡ Some there → Finds there)
      → (d : Deed) → deed_in (history_told jobs past seen) job (schemas_found (trace_of i seen)) e.call ≡ Some d → IsDeedBy NoArray Finds (history_told jobs past seen) (key_of job) job.command d
  deed_by NoArray Finds no_array finds_it d deed =
      let h : History = history_told jobs past seen in
      let found : Option (List Key) = schemas_found (trace_of i seen) in
      let takes : TakeTheirLane (lanes_of items) jobs = lines_take gives seed items jobs are order in
      let begins = kept_first run_codec run_spelled run_tracks gives seed items jobs past m are order stands fresh seed_fits in
      let no_lease : (n : Name) (bytes : List ℕ) → e.call ≡ call.Put n bytes → IsNoLease n = λ n bytes puts.
      deed_no_lease h job found n d (subst (λ x. deed_in h job found x ≡ Some d) puts deed) in
      let right : (n : Name) (bytes : List ℕ) → e.call ≡ call.Put n bytes → (made : FrameIn) → job.command ≡ Create made → (create_refusal made ≡ None) × ((n ≡ name.Domain → ⊥) → NoArray made) = λ n bytes puts made creates.
      let (sound, found_none) = right_where_put run_codec run_spelled run_tracks run_laws (lanes_of items) jobs past m told results takes begins replied suit owned within in_turn driven
      seen rest e place i job mine is_job made creates n bytes puts (no_lease n bytes puts) in
      (sound, λ other. no_array made (found_none other)) in
      let held : (n : Name) (bytes : List ℕ) → e.call ≡ call.Put n bytes → WorksIn job.command → (there : Schema) → schema_used h job found ≡ Some there → Finds there × FitsIn h job.command there = λ n bytes puts works there used.
      let looks : looked_at job ≡ job.at = looks_here job job.command works in
      let (finds, fits) = works_where_used run_codec run_spelled run_tracks run_laws (lanes_of items) jobs past m told results takes begins replied suit owned within in_turn driven
      seen rest e place i job mine is_job (no_create job.command works) (no_merge job.command works) looks n bytes puts (no_lease n bytes puts) there used in
      (finds_it finds.schemas there finds.undone (ap (current_schema (history_told jobs past (finds.schemas).before)) (sym looks) ∙ finds.holds), fits) in
      call_own NoArray Finds h job found e.call d (λ n bytes puts. (right n bytes puts, held n bytes puts)) deed

  -- where its calls were all made since a history, it is one by what there was since then
  pub deed_own : (h0 : History) → ((before : List Told) (x : Told) (later : List Told) → seen ≡ before ++ x ∷ later → x.job ≡ Some i → is_no_memory x.reply ≡ false → Extends h0 (history_told jobs past before))
      → (d : Deed) → deed_in (history_told jobs past seen) job (schemas_found (trace_of i seen)) e.call ≡ Some d → IsDeedOf h0 (history_told jobs past seen) (key_of job) job.command d
  deed_own h0 since d deed =
      deed_since h0 (history_told jobs past seen) (key_of job) job.command d
      (deed_by (λ made. schemas h0 ≡ []) (HeldOnce h0 (history_told jobs past seen) (key_of job)) (none_before jobs past seen i h0 since) (λ at there. held_once jobs past seen i h0 since at (key_of job) there) d deed)
