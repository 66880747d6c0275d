-- Where replies lead that do not let a job go on.
use Rattle.std.proofs.Common.{◌≡◌, ◌≢◌, ◌<◌, inl, inr, None, option_map, length, ℕ, suc, ◌-◌, ◌^◌, List, Some, slice_get, refl, sym, ap, ◌∙◌}
use Rattle.std.proofs.lemmas.Option.{slice_get_cases}
use Rattle.ts_store.specs.declared.call.Call.{Call}
use Rattle.ts_store.specs.declared.call.Reply.{Reply}
use Rattle.ts_store.specs.declared.call.Reply.TheVariants as reply
use Rattle.ts_model.specs.declared.commands.Job.{Job}
use Rattle.ts_model.specs.declared.states.State.{State}
use Rattle.ts_model.specs.declared.states.State.TheVariants.{Creates, Seeks, Puts, Collects, Merges, Lists, Sweeps, Removes, Over}
use Rattle.ts_model.specs.declared.states.Creating.TheVariants.{PutsFrame, ComparesFrame}
use Rattle.ts_model.specs.States.{asks, on_made, on_bytes, ended, with_item, after_frame, frame_put, made_by, goes, get_frame, put_of, putting}
use Rattle.ts_model.specs.declared.states.NewObject.{NewObject}
use Rattle.ts_model.specs.declared.answers.Outcome.{Outcome}
use Rattle.ts_model.specs.Codecs.{Codec}
use Rattle.ts_model.specs.Commands.{frame_made}
use Rattle.ts_schema.specs.FrameTexts.{frame_object}
use Rattle.ts_base.specs.declared.names.Name.TheVariants as name
use Rattle.ts_store.specs.declared.call.Call.TheVariants as call
use Rattle.ts_model.specs.declared.commands.Command.{Command}
use Rattle.ts_model.specs.declared.commands.Command.TheVariants.{Create, Evolve, Write, Read, Delete, Consolidate, Vacuum, Unlock, Fragments}
use Rattle.ts_writer.specs.Writing.{IsCreate, IsOver, IsPutState, IsCreateState, calls_left}

-- a put that did not make its object ends the job
pub made_other : {F : Type 0} (c : Call) (on : State F) (r : Reply) → (r ≡ reply.Made → ⊥) → on_made c on r ≡ ended c r
made_other c on reply.Start other = refl
made_other c on reply.Made other = absurd (other refl)
made_other c on reply.Taken other = refl
made_other c on reply.Removed other = refl
made_other c on (reply.Names names) other = refl
made_other c on (reply.Bytes bytes) other = refl
made_other c on reply.Absent other = refl
made_other c on (reply.Length n) other = refl
made_other c on reply.Failed other = refl
made_other c on reply.NoMemory other = refl

-- a get that has no bytes ends the job
pub bytes_other : {F : Type 0} (c : Call) (on : List ℕ → State F) (r : Reply) → ((bytes : List ℕ) → r ≡ reply.Bytes bytes → ⊥) → on_bytes c on r ≡ ended c r
bytes_other c on reply.Start other = refl
bytes_other c on reply.Made other = refl
bytes_other c on reply.Taken other = refl
bytes_other c on reply.Removed other = refl
bytes_other c on (reply.Names names) other = refl
bytes_other c on (reply.Bytes bytes) other = absurd (other bytes refl)
bytes_other c on reply.Absent other = refl
bytes_other c on (reply.Length n) other = refl
bytes_other c on reply.Failed other = refl
bytes_other c on reply.NoMemory other = refl

-- a job that is over makes no call
pub none_left : {F : Type 0} (s : State F) → IsOver s → calls_left s ≡ 0
none_left (Over end) over = refl
none_left (Creates s) over = absurd over
none_left (Seeks s) over = absurd over
none_left (Puts objects next end) over = absurd over
none_left (Collects s) over = absurd over
none_left (Merges s) over = absurd over
none_left Lists over = absurd over
none_left (Sweeps s) over = absurd over
none_left (Removes names next end) over = absurd over

-- each job can be over
pub over_puts : {F : Type 0} (s : State F) → IsOver s → IsPutState s
over_puts (Over end) over = over
over_puts (Creates s) over = over
over_puts (Seeks s) over = over
over_puts (Puts objects next end) over = absurd over
over_puts (Collects s) over = over
over_puts (Merges s) over = over
over_puts Lists over = over
over_puts (Sweeps s) over = over
over_puts (Removes names next end) over = over

-- a create can put its objects
pub create_puts : {F : Type 0} (job : Job) (s : State F) → IsPutState s → IsCreateState job s
create_puts job (Puts objects next end) may = may
create_puts job (Over end) may = may
create_puts job (Creates s) may = absurd may
create_puts job (Seeks s) may = may
create_puts job (Collects s) may = may
create_puts job (Merges s) may = may
create_puts job Lists may = may
create_puts job (Sweeps s) may = may
create_puts job (Removes names next end) may = may

-- the put of the frame that neither made it nor found its name taken ends a create
frame_kept : {F : Type 0} (job : Job) (c : Call) (r : Reply) → (r ≡ reply.Made → ⊥) → (r ≡ reply.Taken → ⊥) → after_frame {F = F} job c r ≡ ended c r
frame_kept job c reply.Start made taken = refl
frame_kept job c reply.Made made taken = absurd (made refl)
frame_kept job c reply.Taken made taken = absurd (taken refl)
frame_kept job c reply.Removed made taken = refl
frame_kept job c (reply.Names names) made taken = refl
frame_kept job c (reply.Bytes bytes) made taken = refl
frame_kept job c reply.Absent made taken = refl
frame_kept job c (reply.Length n) made taken = refl
frame_kept job c reply.Failed made taken = refl
frame_kept job c reply.NoMemory made taken = refl

frame_in_other : {F : Type 0} (job : Job) (command : Command) (s : State F) (r : Reply) → IsCreate command → (r ≡ reply.Made → ⊥) → (r ≡ reply.Taken → ⊥) → ((bytes : List ℕ) → s ≡ ended (call.Put name.Domain bytes) r)
    → s ≡ with_item (λ f. after_frame job (frame_put f) r) (made_by command)
frame_in_other job (Create f) s r is made taken e = e (frame_object (frame_made f)) ∙ sym (frame_kept job (frame_put f) r made taken)
frame_in_other job (Evolve change) s r is made taken e = absurd is
frame_in_other job (Write w) s r is made taken e = absurd is
frame_in_other job (Read from to query) s r is made taken e = absurd is
frame_in_other job (Delete text) s r is made taken e = absurd is
frame_in_other job (Consolidate from to limits) s r is made taken e = absurd is
frame_in_other job Vacuum s r is made taken e = absurd is
frame_in_other job (Unlock seed lane) s r is made taken e = absurd is
frame_in_other job Fragments s r is made taken e = absurd is

-- so it does in the words of a create's state
pub frame_other : {F : Type 0} (codec : Codec F) (job : Job) (s : State F) (r : Reply) → IsCreate job.command → (r ≡ reply.Made → ⊥) → (r ≡ reply.Taken → ⊥) → ((bytes : List ℕ) → s ≡ ended (call.Put name.Domain bytes) r)
    → s ≡ goes codec job (Creates PutsFrame) r
frame_other codec job s r is made taken e = frame_in_other job job.command s r is made taken e

-- the get of the frame that has no bytes ends a create
pub present_other : {F : Type 0} (codec : Codec F) (job : Job) (s : State F) (r : Reply) → ((bytes : List ℕ) → r ≡ reply.Bytes bytes → ⊥) → ((from len : ℕ) → s ≡ ended (call.Get name.Domain from len) r) → s ≡ goes codec job (Creates ComparesFrame) r
present_other codec job s r other e = e 0 (2 ^ 64 - 1) ∙ sym (bytes_other get_frame _ r other)

-- the put of the object at a place that did not make it ends the job
pub put_other : {F : Type 0} (objects : List NewObject) (next : ℕ) (end : Outcome) (o : NewObject) (s : State F) (r : Reply) → slice_get objects next ≡ Some o → (r ≡ reply.Made → ⊥) → ((bytes : List ℕ) → s ≡ ended (call.Put o.name bytes) r)
    → s ≡ with_item (λ o. on_made (put_of o) (putting objects (suc next) end) r) (slice_get objects next)
put_other objects next end o s r is other e = e o.bytes ∙ sym (ap (with_item (λ o. on_made (put_of o) (putting objects (suc next) end) r)) is ∙ made_other (put_of o) (putting objects (suc next) end) r other)

-- the item at a place is there where the place is within the list
within : (objects : List NewObject) (next : ℕ) → option_map put_of (slice_get objects next) ≢ None → next < length objects
within objects next waits = elim (slice_get_cases objects next).1 [ inl is ↦ is.1 | inr past ↦ absurd (waits (ap (option_map put_of) past.1)) ]

-- a job that asks for the put of an object has fewer puts left afterwards
pub puts_fewer : {F : Type 0} (codec : Codec F) (job : Job) (objects : List NewObject) (next : ℕ) (end : Outcome) (left : ℕ) → (next < length objects → left < length objects - next) → asks codec job (Puts objects next end) ≢ None → left < length objects - next
puts_fewer codec job objects next end left fewer waits = fewer (within objects next waits)
