-- Where memory can be wanting, and where a job comes whose call found none.
use Rattle.std.proofs.Common.{◌≡◌, Bool, true, false, cond, ◌||◌, List, [], ◌∷◌, ◌++◌, Option, Some, None, suc, length, refl, sym, ◌∙◌, ap, subst}
use Rattle.std.proofs.lemmas.Bool.{true≢false}
use Rattle.ts_base.specs.declared.names.Name.{Name}
use Rattle.std.specs.Prelude.{slice_get}
use Rattle.std.proofs.lemmas.Option.{none-some}
use Rattle.ts_store.specs.declared.call.Call.{Call}
use Rattle.ts_model.specs.declared.commands.Job.{Job}
use Rattle.ts_model.specs.declared.states.State.{State}
use Rattle.ts_model.specs.declared.states.State.TheVariants.{Creates, Seeks, Puts, Collects, Merges, Lists, Sweeps, Removes, Over}
use Rattle.ts_model.specs.declared.states.Merging.TheVariants as merging
use Rattle.ts_model.specs.declared.states.Sweeping.TheVariants as sweeping
use Rattle.ts_model.specs.declared.states.Creating.TheVariants.{PutsFrame, ComparesFrame, ListsDeclared}
use Rattle.ts_model.specs.declared.states.Seeking.TheVariants.{ListsCommits, ListsSchemas, GetsSchema, GetsFrame}
use Rattle.ts_model.specs.declared.states.Collecting.TheVariants.{GetsVacs, GetsHeads, GetsSchemas, GetsDeletes, Fetches}
use Rattle.ts_model.specs.declared.states.Stage.{Stage}
use Rattle.ts_model.specs.declared.states.Stage.TheVariants.{Works}
use Rattle.ts_model.specs.Driven.{lacks_after, lacks_from}
use Rattle.ts_model.specs.Stages.{stage_goes, goes_on, stage_from, stage_takes_memory, stage_asks_memory, is_release, lease_of, end_at, released, releases, settled}
use Rattle.ts_model.proofs.Asked.{no_release}
use Rattle.ts_model.specs.Codecs.{Codec}
use Rattle.ts_model.specs.States.{get_vac, after_vac, Exchange, asks, goes, ended, listing_of, on_bytes, on_made, on_removed, removing, with_item, putting, put_of, made_by, after_frame, after_head, after_schema, after_delete, frame_put, get_schema, get_delete, get_head, after_names, get_head_in, after_opened, after_surveyed, after_swept, list_parts, listing_parts, on_names}
use Rattle.ts_store.specs.declared.call.Call.TheVariants as call
use Rattle.ts_store.specs.declared.call.Reply.TheVariants as reply
use Rattle.ts_model.specs.declared.answers.Outcome.TheVariants as outcome

-- ---- the removal of a lease

module _ {F : Type 0} (codec : Codec F) (job : Job) where
  -- a call that removes the lease of the job leads it to its end
  pub release_ends : (stage : Stage F) (x : Exchange) (lease : Name) → lease_of job ≡ Some lease → is_release job x.call ≡ true → goes_on codec job stage x ≡ Works (Over (released lease (end_at stage) x.reply))
  release_ends stage x lease some is =
      ap (λ b. cond b (releases stage (lease_of job) x.reply) (stage_goes codec job stage x.reply)) is ∙ ap (λ o. releases stage o x.reply) some

  -- another call leads on by its reply
  pub other_goes : (stage : Stage F) (x : Exchange) → is_release job x.call ≡ false → goes_on codec job stage x ≡ stage_goes codec job stage x.reply
  other_goes stage x other = ap (λ b. cond b (releases stage (lease_of job) x.reply) (stage_goes codec job stage x.reply)) other

  -- the work of a job without a lease leads on by its reply
  pub bare_goes : (s : State F) (x : Exchange) → lease_of job ≡ None → goes_on codec job (Works s) x ≡ Works (goes codec job s x.reply)
  bare_goes s x none = other_goes (Works s) x (no_release job x.call none) ∙ ap (λ o. settled o (goes codec job s x.reply)) none

  -- after the removal of the lease no memory is wanting for the next call
  release_asks : (stage : Stage F) (x : Exchange) → is_release job x.call ≡ true → stage_asks_memory (goes_on codec job stage x) ≡ false
  release_asks stage x is = by_lease (lease_of job) refl
    where
      by_lease : (o : Option Name) → lease_of job ≡ o → stage_asks_memory (goes_on codec job stage x) ≡ false
      by_lease None none = absurd (true≢false (sym is ∙ no_release job x.call none))
      by_lease (Some lease) some = ap stage_asks_memory (release_ends stage x lease some is)

-- ---- where memory can be wanting

-- one of two tests, the second of which holds
or_second : (a b : Bool) → b ≡ true → (a || b) ≡ true
or_second true b is = refl
or_second false b is = is

-- one of two tests, the first of which holds
or_first : (a b : Bool) → a ≡ true → (a || b) ≡ true
or_first true b is = refl
or_first false b is = absurd (true≢false (sym is))

module _ {F : Type 0} (codec : Codec F) (job : Job) where
  -- what is wanting after one call more
  pub lacks-push : (before : Bool) (stage : Stage F) (trace : List Exchange) (x : Exchange)
      → lacks_from codec job before stage (trace ++ x ∷ []) ≡ lacks_after codec job (lacks_from codec job before stage trace) (stage_from codec job stage trace) x
  lacks-push before stage [] x = refl
  lacks-push before stage (y ∷ trace) x = lacks-push (lacks_after codec job before stage y) (goes_on codec job stage y) trace x

  -- memory can be wanting after a call where it can be for the next one
  asking_after : (before : Bool) (stage : Stage F) (x : Exchange) → stage_asks_memory (goes_on codec job stage x) ≡ true → lacks_after codec job before stage x ≡ true
  asking_after before stage x asking = by_kind (is_release job x.call) refl
    where
      by_kind : (b : Bool) → is_release job x.call ≡ b → lacks_after codec job before stage x ≡ true
      by_kind true is = absurd (true≢false (sym asking ∙ release_asks codec job stage x is))
      by_kind false is = ap (λ b. cond b before (stage_takes_memory stage || stage_asks_memory (goes_on codec job stage x))) is ∙ or_second (stage_takes_memory stage) (stage_asks_memory (goes_on codec job stage x)) asking

  -- it can be wanting after calls that led to where it can be for the next one
  pub asking_lacks : (before : Bool) (stage : Stage F) (trace : List Exchange) → (trace ≡ [] → before ≡ true) → stage_asks_memory (stage_from codec job stage trace) ≡ true → lacks_from codec job before stage trace ≡ true
  asking_lacks before stage [] first asking = first refl
  asking_lacks before stage (x ∷ xs) first asking =
      asking_lacks (lacks_after codec job before stage x) (goes_on codec job stage x) xs
      (λ none. asking_after before stage x (subst (λ t. stage_asks_memory (stage_from codec job (goes_on codec job stage x) t) ≡ true) none asking)) asking

  -- it can be wanting for what a reply leads to, where that takes memory
  pub reply_lacks : (before : Bool) (stage : Stage F) (trace : List Exchange) (x : Exchange) → is_release job x.call ≡ false → stage_takes_memory (stage_from codec job stage trace) ≡ true → lacks_from codec job before stage (trace ++ x ∷ []) ≡ true
  reply_lacks before stage trace x other takes =
      let here = stage_from codec job stage trace in
      lacks-push before stage trace x
      ∙ ap (λ b. cond b (lacks_from codec job before stage trace) (stage_takes_memory here || stage_asks_memory (goes_on codec job here x))) other
      ∙ or_first (stage_takes_memory here) (stage_asks_memory (goes_on codec job here x)) takes

-- ---- a call that found no memory

module _ (F : Type 0) where
  -- a call that found no memory ends its job
  ended_short : (c : Call) → ended {F = F} c reply.NoMemory ≡ Over outcome.OutOfMemory
  ended_short (call.Put n bytes) = refl
  ended_short (call.Get n from len) = refl
  ended_short (call.Size n) = refl
  ended_short (call.Remove n) = refl
  ended_short (call.List p) = refl

  item_short : {A : Type 0} (on : A → State F) → ((x : A) → on x ≡ Over outcome.OutOfMemory) → (o : Option A) → with_item on o ≡ Over outcome.OutOfMemory
  item_short on short None = refl
  item_short on short (Some x) = short x

  module _ (codec : Codec F) where
    -- where the job comes to whose call found no memory
    pub no_memory_ends : (job : Job) (s : State F) (c : Call) → asks codec job s ≡ Some c → goes codec job s reply.NoMemory ≡ Over outcome.OutOfMemory
    no_memory_ends job (Creates PutsFrame) c asked = item_short (λ f. after_frame job (frame_put f) reply.NoMemory) (λ f. refl) (made_by job.command)
    no_memory_ends job (Creates ComparesFrame) c asked = refl
    no_memory_ends job (Creates ListsDeclared) c asked = refl
    no_memory_ends job (Puts objects next end) c asked = item_short (λ o. on_made (put_of o) (putting objects (suc next) end) reply.NoMemory) (λ o. refl) (slice_get objects next)
    no_memory_ends job (Seeks ListsCommits) c asked = refl
    no_memory_ends job (Seeks (ListsSchemas listed)) c asked = refl
    no_memory_ends job (Seeks (GetsSchema listed there)) c asked = refl
    no_memory_ends job (Seeks (GetsFrame listed there)) c asked = refl
    no_memory_ends job (Collects (GetsVacs q)) c asked = item_short (λ f. on_bytes (get_vac f) (after_vac codec q f) reply.NoMemory) (λ f. refl) (slice_get q.counting (length q.vacs))
    no_memory_ends job (Collects (GetsHeads q opened)) c asked = item_short (λ f. on_bytes (get_head codec q f) (after_head codec q opened f) reply.NoMemory) (λ f. refl) (slice_get q.fragments (length opened))
    no_memory_ends job (Collects (GetsSchemas q opened keys schemas)) c asked = item_short (λ k. on_bytes (get_schema k) (after_schema codec q opened keys schemas k) reply.NoMemory) (λ k. refl) (slice_get keys (length schemas))
    no_memory_ends job (Collects (GetsDeletes q opened schemas)) c asked = item_short (λ f. on_bytes (get_delete f) (after_delete codec q opened schemas f) reply.NoMemory) (λ f. refl) (slice_get q.delete_names (length q.deletions))
    no_memory_ends job (Collects (Fetches q opened schemas next frag got f c')) c asked = ended_short c'
    no_memory_ends job (Merges merging.ListsCommits) c asked = refl
    no_memory_ends job (Merges (merging.ListsSchemas candidates)) c asked = refl
    no_memory_ends job (Merges (merging.GetsFrame candidates)) c asked = refl
    no_memory_ends job (Merges (merging.GetsVacs s)) c asked = item_short (λ f. on_bytes (get_vac f) (after_names codec job s f) reply.NoMemory) (λ f. refl) (slice_get s.counting (length s.vacs))
    no_memory_ends job (Merges (merging.GetsHeads s opened)) c asked = item_short (λ f. on_bytes (get_head_in codec s.frame f) (after_opened codec job s opened f) reply.NoMemory) (λ f. refl) (slice_get s.fragments (length opened))
    no_memory_ends job (Merges (merging.GetsSchemas s opened keys schemas)) c asked = item_short (λ k. on_bytes (get_schema k) (after_surveyed codec job s opened keys schemas k) reply.NoMemory) (λ k. refl) (slice_get keys (length schemas))
    no_memory_ends job (Merges (merging.Fetches s sources schema next frag got f c')) c asked = ended_short c'
    no_memory_ends job (Sweeps sweeping.ListsCommits) c asked = refl
    no_memory_ends job (Sweeps (sweeping.ListsSchemas s)) c asked = refl
    no_memory_ends job (Sweeps (sweeping.GetsVacs s)) c asked = item_short (λ f. on_bytes (get_vac f) (after_swept s f) reply.NoMemory) (λ f. refl) (slice_get s.counting (length s.vacs))
    no_memory_ends job (Sweeps (sweeping.ListsParts s set listed)) c asked = item_short (λ f. on_names (list_parts f) (λ names. listing_parts s set (listed ++ names ∷ [])) reply.NoMemory) (λ f. refl) (slice_get set (length listed))
    no_memory_ends job Lists c asked = ended_short (listing_of job.command)
    no_memory_ends job (Removes names next end) c asked = item_short (λ n. on_removed (call.Remove n) (removing names (suc next) end) reply.NoMemory) (λ n. refl) (slice_get names next)
    no_memory_ends job (Over end) c asked = absurd (none-some c asked)
