-- Commands that were done together in lanes, each by an actor of its line, are a run of the lines.
use Rattle.std.proofs.Common.{◌≡◌, ◌⊎◌, inl, inr, ℕ, ◌+◌, ◌-◌, ◌<◌, ◌≤◌, ◌^◌, Bool, cond, List, [], ◌∷◌, Option, Some, None, length, refl, sym, ◌∙◌, ap, subst, arith}
use Rattle.std.specs.Prelude.{All, IfSome, slice_get}
use Rattle.std.specs.List.{cons_option}
use Rattle.std.specs.Option.{option_map_or}
use Rattle.std.specs.declared.alloc.Global.{Global}
use Rattle.std.specs.declared.vec.Vec.{Vec}
use Rattle.std.proofs.lemmas.Option.{same_Some, slice_get_cases}
use Rattle.std.proofs.lemmas.List.Elements.{All-head, All-tail, All-weaker}
use Rattle.ts_base.specs.Held.{Held}
use Rattle.ts_base.specs.declared.heads.Stop.{Stop}
use Rattle.ts_base.specs.declared.heads.Stop.TheVariants as stop
use Rattle.ts_store.specs.declared.call.Call.{Call}
use Rattle.ts_store.specs.declared.call.Reply.{Reply}
use Rattle.ts_store.specs.declared.fate.Fate.{Fate}
use Rattle.ts_store.specs.declared.journal.Entry.{Entry}
use Rattle.ts_store.specs.Calls.{is_no_memory}
use Rattle.ts_store.specs.Journals.{held_after}
use Rattle.ts_store.specs.Recorders.{WasMade}
use Rattle.ts_model.specs.declared.answers.Driven.{Driven}
use Rattle.ts_model.specs.declared.answers.Driven.TheVariants.{Done}
use Rattle.ts_model.specs.declared.answers.Outcome.{Outcome}
use Rattle.ts_model.specs.declared.answers.Outcome.TheVariants.{OutOfMemory}
use Rattle.ts_model.specs.declared.commands.Job.{Job}
use Rattle.ts_model.specs.declared.commands.Line.{Line}
use Rattle.ts_model.specs.Codecs.{Codec, Spelled, Tracking, CodecLaws}
use Rattle.ts_model.specs.Driven.{AskedFrom, MayAsk, IsDriven}
use Rattle.ts_model.specs.Driving.{Leaves}
use Rattle.ts_model.specs.Stages.{first_stage, stage_of}
use Rattle.ts_model.specs.States.{Exchange}
use Rattle.ts_model.specs.Told.{Told, trace_of, entry_of, entries_of}
use Rattle.ts_model.proofs.Asked.{starts_unleased}
use Rattle.ts_law.specs.Fresh.{Numbered, AreJobsOf, IsJobOf, id_of, in_lane_order, lanes_of}
use Rattle.ts_law.specs.Lanes.{lane_by, IsOwned, IsWithin, InTurn}
use Rattle.ts_law.specs.Runs.{AreDriven, IsRunOver, IsRun}
use Rattle.ts_law.proofs.Journals.{journal_held}
use Rattle.ts_law.proofs.LineJobs.{AreInOrder}
use Rattle.ts_law.proofs.Segments.{segments_of}
use Rattle.ts_law.proofs.TrueRuns.{true_run}
use Rattle.ts_actor.specs.Drives.{Exchanged, MadeOf}
use Rattle.ts_actor.specs.Traces.{Trace, asking}
use Rattle.ts_actor.proofs.JobRuns.{job_ends, asked_by, comes_out}
use Rattle.ts_lanes.specs.Commands.{Acted, CameOut, IsCommand}
use Rattle.ts_lanes.specs.Together.{DidTogether, IsOfCommand, lane_in}
use Rattle.ts_top.specs.Crews.{IsTaskOf, all_ends, count_of, item_of, stop_of}
use Rattle.ts_top.proofs.Rows.{before, chosen, rows_length, row_at}
use Rattle.ts_top.proofs.LaneRows.{command_at, index, index_within, item_there, lines_length, item_at as line_at}

-- ---- one command

module _ {F A : Type 0} (codec : Codec F) (task : A → Job) (follows : A → Trace → Type 0)
    (asks_next : (a : A) (past : List Exchange) (c : Call) → follows a (asking past c) → MayAsk codec (task a) (stage_of codec (task a) past) c) where
  -- an actor of a job made these calls and came out so; or there was no memory to make one
  abbrev pub ActedOrShort : Stop → Job → List Exchange → Driven Outcome → Type 0
  ActedOrShort stop job trace result = Acted task follows (job_ends codec) stop job trace result ⊎ ((trace ≡ []) × (result ≡ Done OutOfMemory))

  -- then the job was driven by its calls
  acted_driven : (job : Job) (trace : List Exchange) (result : Driven Outcome) → ActedOrShort job.stop job trace result → IsDriven codec job trace result
  acted_driven job trace result (inl acted) = record {
    asked = asked_by {A = A} codec task follows asks_next job [] trace acted.asked;
    uncut = acted.uncut;
    ends = comes_out {A = A} codec task follows asks_next job acted.last trace result acted.same acted.end;
  }
  acted_driven job trace result (inr none) =
      let P : List Exchange → Type 0 = λ xs. IsDriven codec job xs result in
      let Q : Driven Outcome → Type 0 = λ r. IsDriven codec job [] r in
      subst P (sym none.0) (subst Q (sym none.1) (record { asked = tt; uncut = tt; ends = inr (refl, (starts_unleased F job, refl)) }))

  -- a command of a line came out so: its job was driven by its calls
  came_driven : (gives : ℕ → Bool) (seed : ℕ) (lines : List Line) (lane number : ℕ) (item : Numbered) (trace : List Exchange) (result : Driven Outcome) → item_of lines lane number ≡ Some item
      → CameOut {A = A} (stop_of lines) (IsTaskOf gives seed lines) task follows (job_ends codec) lane number trace result
      → (job : Job) × IsJobOf gives (id_of seed lane number) item.line job × IsDriven codec job trace result
  came_driven gives seed lines lane number item trace result at (job, (other, other_at, of_other), acted) =
      let same : other ≡ item = same_Some other item (sym other_at ∙ at) in
      let of_line : IsJobOf gives (id_of seed lane number) item.line job = subst (λ (x : Numbered). IsJobOf gives (id_of seed lane number) x.line job) same of_other in
      let stops : stop_of lines lane number ≡ job.stop = ap (λ o. option_map_or (λ (x : Numbered). (x.line).stop) o stop.Never) at ∙ sym of_line.stop in
      (job, of_line, acted_driven job trace result (subst (λ s. ActedOrShort s job trace result) stops acted))

-- ---- all commands

-- a job for a place among all lines: it is that of the line there, and was driven by the calls with this number to the end there
record IsPlaced {F : Type 0} (codec : Codec F) (gives : ℕ → Bool) (seed : ℕ) (items : List Numbered) (ends : List (Driven Outcome)) (told : List Told) (number : ℕ) (job : Job) : Type 0 where
  item : Numbered
  item_is : slice_get items number ≡ Some item
  of_line : IsJobOf gives (id_of seed (item.line).lane item.number) item.line job
  end : Driven Outcome
  end_is : slice_get ends number ≡ Some end
  driven : IsDriven codec job (trace_of number told) end

-- calls that have a number have the same entries, whichever lane those without one have
same_entries : (lanes : ℕ → ℕ) (told : List Told) → All IsOwned told → entries_of (lane_in lanes) told ≡ entries_of (lane_by lanes) told
same_entries lanes [] owned = refl
same_entries lanes (e ∷ told) owned =
    let (number, mine) = All-head IsOwned e told owned in
    let entry_in : (Option ℕ → ℕ) → Option ℕ → Option Entry = λ lane j. cond (is_no_memory e.reply) None (Some (record { lane = lane j; call = e.call; fate = e.fate })) in
    let same : entry_of (lane_in lanes) e ≡ entry_of (lane_by lanes) e = ap (entry_in (lane_in lanes)) mine ∙ sym (ap (entry_in (lane_by lanes)) mine) in
    ap (λ o. cons_option o (entries_of (lane_in lanes) told)) same ∙ ap (λ es. cons_option (entry_of (lane_by lanes) e) es) (same_entries lanes told (All-tail IsOwned e told owned))

module _ {F A S : Type 0} (codec : Codec F) (task : A → Job) (follows : A → Trace → Type 0)
    (asks_next : (a : A) (past : List Exchange) (c : Call) → follows a (asking past c) → MayAsk codec (task a) (stage_of codec (task a) past) c)
    (gives : ℕ → Bool) (seed lanes : ℕ) (lines : List Line) (few : lanes ≤ 8) (within : All (λ line. line.lane < lanes) lines)
    (held : S → Option Held) (last : S → Fate) (faults asked : S → ℕ) (notes : S → Call → Reply → S → Type 0) (store later : S) (journal : List Entry) (rooms : List (Vec (Driven Outcome) Global))
    (did : DidTogether (CameOut {A = A} (stop_of lines) (IsTaskOf gives seed lines) task follows (job_ends codec)) lanes (count_of lines) (index lines) (lanes_of (in_lane_order lines)) held last faults asked notes store later journal rooms) where
  -- the lines in lane order, and how they came out
  abbrev items : List Numbered
  items = in_lane_order lines

  abbrev ends : List (Driven Outcome)
  ends = all_ends rooms

  -- each line has its end
  pub ends_each : length ends ≡ length items
  ends_each = rows_length (λ (room : Vec (Driven Outcome) Global). room.items) (count_of lines) rooms did.each ∙ ap (before (count_of lines)) did.one_each ∙ sym (lines_length lanes lines few within)

  -- the end of a command stands at its number, and it came out so by the calls of its number
  end_of : (lane number : ℕ) → IsCommand lanes (count_of lines) lane number
      → (end : Driven Outcome) × (slice_get ends (index lines lane number) ≡ Some end) × CameOut {A = A} (stop_of lines) (IsTaskOf gives seed lines) task follows (job_ends codec) lane number (trace_of (index lines lane number) did.told) end
  end_of lane number (less, from, to) = elim (slice_get_cases rooms lane).1 [
    | inl there ↦ in_room there.0 there.2
    | inr past ↦ absurd (let many = did.one_each in omega (arith, past.0, many, less))
  ]
    where
      in_room : (own : Vec (Driven Outcome) Global) → slice_get rooms lane ≡ Some own
          → (end : Driven Outcome) × (slice_get ends (index lines lane number) ≡ Some end) × CameOut {A = A} (stop_of lines) (IsTaskOf gives seed lines) task follows (job_ends codec) lane number (trace_of (index lines lane number) did.told) end
      in_room own at =
          let count = did.each lane own at in
          let same : 1 + (number - 1) ≡ number = omega (arith, from) in
          elim (slice_get_cases own.items (number - 1)).1 [
            | inl there ↦ (
              there.0,
              row_at (λ (room : Vec (Driven Outcome) Global). room.items) (count_of lines) rooms lane own (number - 1) did.each at there.1 ∙ there.2,
              subst (λ n. CameOut {A = A} (stop_of lines) (IsTaskOf gives seed lines) task follows (job_ends codec) lane n (trace_of (index lines lane n) did.told) there.0) same
                  (did.came_out lane (number - 1) own there.0 at there.2),
            )
            | inr past ↦ absurd (omega (arith, past.0, count, from, to))
          ]

  -- each place among all has its job
  placed : (k : ℕ) → k < length items → (job : Job) × IsPlaced codec gives seed items ends did.told k job
  placed k less =
      let (lane, number, is, same) = command_at lanes lines few within k less in
      let (item, at, own, numbered) = item_there lanes lines few within lane number is in
      let (end, end_is, came) = end_of lane number is in
      let (job, of_line, driven) = came_driven {A = A} codec task follows asks_next gives seed lines lane number item (trace_of (index lines lane number) did.told) end at came in
      let J : ℕ → ℕ → Type 0 = λ l n. IsJobOf gives (id_of seed l n) item.line job in
      let P : ℕ → Type 0 = λ n. IsPlaced codec gives seed items ends did.told n job in
      (job, subst P (sym same) (record { item = item; item_is = line_at lanes lines few within lane number is ∙ at; of_line = subst (λ l. J l item.number) (sym own) (subst (J lane) (sym numbered) of_line); end = end; end_is = end_is; driven = driven }))

  -- the jobs, one for each line
  chosen_jobs : (jobs : List Job) × (length jobs ≡ length items) × ((k : ℕ) (job : Job) → slice_get jobs k ≡ Some job → IsPlaced codec gives seed items ends did.told k job)
  chosen_jobs = chosen (IsPlaced codec gives seed items ends did.told) (length items) placed

  abbrev jobs : List Job
  jobs = chosen_jobs.0

  of_lines : AreJobsOf gives seed items jobs
  of_lines = record {
    one_each = chosen_jobs.1;
    each = λ i item job item_is job_is.
        let is = chosen_jobs.2 i job job_is in
        let same : is.item ≡ item = same_Some is.item item (sym is.item_is ∙ item_is) in
        subst (λ (x : Numbered). IsJobOf gives (id_of seed (x.line).lane x.number) x.line job) same is.of_line;
  }

  driven : AreDriven codec jobs ends did.told
  driven = record {
    one_each = ends_each ∙ sym chosen_jobs.1;
    driven = λ number job end job_is end_is.
        let is = chosen_jobs.2 number job job_is in
        let same : is.end ≡ end = same_Some is.end end (sym is.end_is ∙ end_is) in
        subst (λ (r : Driven Outcome). IsDriven codec job (trace_of number did.told) r) same is.driven;
  }

  owned : All IsOwned did.told
  owned = All-weaker (IsOfCommand lanes (count_of lines) (index lines)) IsOwned (λ e is. (index lines is.0 is.1, is.3)) did.told did.owned

  jobs_own : All (IsWithin jobs) did.told
  jobs_own = All-weaker (IsOfCommand lanes (count_of lines) (index lines)) (IsWithin jobs) own did.told did.owned
    where
      own : (e : Told) → IsOfCommand lanes (count_of lines) (index lines) e → IsWithin jobs e
      own e (lane, number, is, mine) k by_it =
          let same : index lines lane number ≡ k = same_Some (index lines lane number) k (sym mine ∙ by_it) in
          let less = index_within lanes lines few within lane number is in
          let many = chosen_jobs.1 in
          omega (arith, same, less, many)

  entered : entries_of (lane_by (lanes_of items)) did.told ≡ journal
  entered = sym (same_entries (lanes_of items) did.told owned) ∙ did.entries

  turns : InTurn (lanes_of items) did.told
  turns = did.in_turn

  module _ (spelled : Spelled) (tracks : Tracking F) (laws : CodecLaws codec spelled tracks) (order : AreInOrder items) (seed_fits : seed < 2 ^ 64) where
    -- over a store that told what it held, the jobs are a run of it
    run_over : (m : Held) → Leaves m (held later) did.told → IsRunOver spelled seed (lanes_of items) jobs m (held later) journal did.told ends
    run_over m leaves = record {
      replied = leaves.replied;
      held = leaves.held ∙ ap Some (journal_held (lane_by (lanes_of items)) m did.told ∙ ap (held_after m) entered);
      true_run = λ h stands fresh. true_run codec spelled tracks laws gives seed items jobs h m did.told ends of_lines order stands fresh seed_fits leaves.replied did.suit owned jobs_own turns driven;
    }

    -- they are a run of the lines, and those of a lane come one after the other
    pub lanes_run : (jobs : List Job) × AreJobsOf gives seed items jobs
        × ((run : IsRun codec spelled held (MadeOf last (Exchanged held last faults (WasMade asked notes))) seed (lanes_of items) jobs store later journal ends) × InTurn (lanes_of items) run.told)
    lanes_run = (
      jobs,
      of_lines,
      (
        record {
          told = did.told;
          owned = owned;
          calls = did.made_of;
          entries = entered;
          suit = did.suit;
          in_lanes = record { within = jobs_own; asked = λ number job at. asks number job at; in_turn = turns };
          driven = driven;
          segments = segments_of codec laws.looks jobs ends did.told driven;
          over = over (held store) did.over;
        },
        turns,
      ),
    )
      where
        asks : (number : ℕ) (job : Job) → slice_get jobs number ≡ Some job → AskedFrom codec job (first_stage job) (trace_of number did.told)
        asks number job at =
            let is = chosen_jobs.2 number job at in
            (is.driven).asked

        over : (opening : Option Held) → IfSome opening (λ m. Leaves m (held later) did.told) → IfSome opening (λ m. IsRunOver spelled seed (lanes_of items) jobs m (held later) journal did.told ends)
        over None leaves = tt
        over (Some m) leaves = run_over m leaves
