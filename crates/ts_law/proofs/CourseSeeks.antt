-- A job that works in a schema lists the schemas, and gets the schema there and the frame.
use Rattle.std.proofs.Common.{◌≡◌, ℕ, false, List, [], ◌∷◌, ◌++◌, Option, Some, None, Result, Ok, Err, IsTrue, refl, inl, inr}
use Rattle.std.specs.Prelude.{⊤}
use Rattle.std.proofs.lemmas.List.Elements.{Contains-push}
use Rattle.ts_base.specs.declared.keys.Key.{Key}
use Rattle.ts_base.specs.declared.names.Name.{Name}
use Rattle.ts_schema.specs.declared.frames.Frame.{Frame}
use Rattle.ts_schema.specs.declared.schemas.Schema.{Schema}
use Rattle.ts_schema.specs.declared.attrs.Attr.{Attr}
use Rattle.ts_schema.specs.Evolutions.{schema_at}
use Rattle.ts_schema.specs.FrameTexts.{frame_of}
use Rattle.ts_schema.specs.SchemaTexts.{schema_of}
use Rattle.ts_store.specs.declared.call.Call.{Call}
use Rattle.ts_store.specs.declared.call.Reply.{Reply}
use Rattle.ts_model.specs.declared.commands.Job.{Job}
use Rattle.ts_model.specs.declared.answers.Outcome.{Outcome}
use Rattle.ts_model.specs.declared.states.State.TheVariants.{Seeks}
use Rattle.ts_model.specs.declared.states.Seeking.TheVariants.{ListsSchemas, GetsSchema, GetsFrame}
use Rattle.ts_model.specs.Codecs.{Codec}
use Rattle.ts_model.specs.Jobs.{looked_at}
use Rattle.ts_model.specs.States.{Exchange, goes, ended, get_schema, get_frame, list_schemas, schemas_in, works as comes_to}
use Rattle.ts_law.specs.Courses.{Found, IsSchemaIn, IsFrameIn, SaysFound, GotSchema, IsCurrentKey, IsGot, LooksForSchema, IsLookOf, lets_on}
use Rattle.ts_law.specs.Refusals.{WorksInSchema}
use Rattle.ts_model.specs.declared.states.Listed.{Listed}
use Rattle.ts_law.proofs.CourseCalls.{Goes, Follows, follows_on, follows_refused, follows_ended, goes_none, goes_by}
use Rattle.ts_law.proofs.CourseGrows.{AreAmong, among_more, schema_stays, key_stays}
use Rattle.ts_domain.specs.declared.orders.Order.TheVariants as order
use Rattle.ts_base.specs.declared.names.Name.TheVariants as name
use Rattle.ts_store.specs.declared.call.Reply.TheVariants as reply
use Rattle.ts_model.specs.declared.answers.Refusal.TheVariants as refusal

-- ---- a job that works in a schema

-- a schema of a job that found none
pub no_schema : Schema
no_schema = record { key = record { t = 0; id = 0 }; attrs = [] }

-- a frame of a job that found none
pub no_frame : Frame
no_frame = record { dense = false; domain = []; cell = order.Row; tile = order.Row; capacity = 0 }

-- what a job found that works in a schema of an array with a frame
abbrev pub found_as : Schema → Frame → Found
found_as there frame = record { taken = false; current = there; frame = frame; merged = None; leases = []; swept = []; removed = [] }

-- what bytes say, if a reply has any
abbrev pub OfBytes : (List ℕ → Type 0) → Reply → Type 0
OfBytes P (reply.Bytes bytes) = P bytes
OfBytes P r = ⊤

module _ {F : Type 0} (codec : Codec F) (job : Job) (works : WorksInSchema job.command)
    (may_look : (found : Found) (seen : List Exchange) (c : Call) → LooksForSchema job seen c → IsLookOf codec job found seen c)
    (says_list : (found : Found) (r : Reply) → SaysFound found job.command list_schemas r)
    (says_schema : (found : Found) (k : Key) (r : Reply) → OfBytes (λ bytes. IsSchemaIn found.current k (schema_of bytes)) r → SaysFound found job.command (get_schema k) r)
    (says_frame : (found : Found) (r : Reply) → OfBytes (λ bytes. IsFrameIn found.frame (frame_of bytes)) r → SaysFound found job.command get_frame r)
    (tail : Found → List Call) (early : List Exchange) (looked : Listed)
    (works_go : (there : Schema) (frame : Frame) (seen : List Exchange) (x : Exchange) (xs : List Exchange) (end : Outcome) → AreAmong early seen → IsGot job (found_as there frame) (seen ++ x ∷ []) → SaysFound (found_as there frame) job.command x.call x.reply
    → IsTrue (lets_on x.call x.reply) → IsLookOf codec job (found_as there frame) seen x.call → Follows codec job seen (found_as there frame) (tail (found_as there frame)) x xs end (comes_to codec job job.command looked frame there)) where
  -- a job got the schema there
  record GotCurrent (seen : List Exchange) (there : Schema) : Type 0 where
    key : IsCurrentKey job seen there.key
    spelled : GotSchema seen there

  -- with the frame it got all that it found
  got_all : (seen : List Exchange) (there : Schema) (frame : Frame) (bytes : List ℕ) → GotCurrent seen there → frame_of bytes ≡ Ok frame → IsGot job (found_as there frame) (seen ++ record { call = get_frame; reply = reply.Bytes bytes } ∷ [])
  got_all seen there frame bytes have is =
      let x : Exchange = record { call = get_frame; reply = reply.Bytes bytes } in
      record {
        key = key_stays job seen (seen ++ x ∷ []) there.key (among_more seen x) have.key;
        schema = schema_stays seen (seen ++ x ∷ []) there (among_more seen x) have.spelled;
        frame_bytes = bytes;
        frame_got = Contains-push seen x;
        frame_is = is;
      }

  -- bytes that are broken spell no other schema
  silent_schema : (found : Found) (k : Key) (at : ℕ) (bytes : List ℕ) → schema_of bytes ≡ Err at → IsSchemaIn found.current k (schema_of bytes)
  silent_schema found k at bytes is = rw is tt

  -- bytes that are broken spell no other frame
  silent_frame : (found : Found) (at : ℕ) (bytes : List ℕ) → frame_of bytes ≡ Err at → IsFrameIn found.frame (frame_of bytes)
  silent_frame found at bytes is = rw is tt

  -- the get of the frame is a look
  looks_frame : (seen : List Exchange) (there : Schema) (found : Found) → GotCurrent seen there → IsLookOf codec job found seen get_frame
  looks_frame seen there found have = may_look found seen get_frame (inr (there, have.key, have.spelled, refl))

  -- so is that of the schema there
  looks_schema : (seen : List Exchange) (k : Key) (found : Found) → IsCurrentKey job seen k → IsLookOf codec job found seen (get_schema k)
  looks_schema seen k found is = may_look found seen (get_schema k) (inl (k, is, refl))

  -- the get of the frame says which it is
  frame_found : (there : Schema) (seen xs : List Exchange) (end : Outcome) → AreAmong early seen
      → (frame : Frame) × (GotCurrent seen there → Goes codec job seen (found_as there frame) (tail (found_as there frame)) xs end (Seeks (GetsFrame looked there)))
  frame_found there seen [] end since = (no_frame, λ have. goes_none codec job seen (found_as there no_frame) (tail (found_as there no_frame)) end (Seeks (GetsFrame looked there)) (λ o q. cc))
  frame_found there seen (x ∷ xs) end since =
      let (frame, follows) = by_reply x.reply in
      (frame, λ have. goes_by codec job seen (found_as there frame) (tail (found_as there frame)) x xs end (Seeks (GetsFrame looked there)) get_frame refl (λ same. follows have))
    where
      FrameFor : Reply → Type 0
      FrameFor r = (frame : Frame) × (GotCurrent seen there → Follows codec job seen (found_as there frame) (tail (found_as there frame)) (record { call = get_frame; reply = r }) xs end (goes codec job (Seeks (GetsFrame looked there)) r))

      by_frame : (bytes : List ℕ) (f : Result Frame ℕ) → frame_of bytes ≡ f → FrameFor (reply.Bytes bytes)
      by_frame bytes (Ok frame) is = (
        frame,
        λ have. rw is (works_go there frame seen (record { call = get_frame; reply = reply.Bytes bytes }) xs end since (got_all seen there frame bytes have is) (says_frame (found_as there frame) (reply.Bytes bytes) (rw is refl)) refl
            (looks_frame seen there (found_as there frame) have)),
      )
      by_frame bytes (Err at) is = (
        no_frame,
        λ have. rw is (follows_refused codec job seen (found_as there no_frame) (tail (found_as there no_frame)) (tail (found_as there no_frame)) (record { call = get_frame; reply = reply.Bytes bytes }) xs end (refusal.Damaged name.Domain at)
            (says_frame (found_as there no_frame) (reply.Bytes bytes) (silent_frame (found_as there no_frame) at bytes is)) (inl (looks_frame seen there (found_as there no_frame) have, refl))
            (inl (bytes, Contains-push seen (record { call = get_frame; reply = reply.Bytes bytes }), is))),
      )

      other : (r : Reply) → OfBytes (λ bytes. IsFrameIn no_frame (frame_of bytes)) r → GotCurrent seen there → Follows codec job seen (found_as there no_frame) (tail (found_as there no_frame)) (record { call = get_frame; reply = r }) xs end (ended get_frame r)
      other r quiet have =
          follows_ended codec job seen (found_as there no_frame) (tail (found_as there no_frame)) (tail (found_as there no_frame)) get_frame r xs end tt (says_frame (found_as there no_frame) r quiet) (inl (looks_frame seen there (found_as there no_frame) have, refl))

      by_reply : (r : Reply) → FrameFor r
      by_reply (reply.Bytes bytes) = by_frame bytes (frame_of bytes) refl
      by_reply r = (no_frame, λ have. other r tt have)

  -- the get of the schema there says which it is
  schema_found : (k : Key) (seen xs : List Exchange) (end : Outcome) → AreAmong early seen
      → (there : Schema) × (frame : Frame) × (IsCurrentKey job seen k → Goes codec job seen (found_as there frame) (tail (found_as there frame)) xs end (Seeks (GetsSchema looked k)))
  schema_found k seen [] end since = (no_schema, no_frame, λ listed. goes_none codec job seen (found_as no_schema no_frame) (tail (found_as no_schema no_frame)) end (Seeks (GetsSchema looked k)) (λ o q. cc))
  schema_found k seen (x ∷ xs) end since =
      let (there, frame, follows) = by_reply x.reply in
      (there, frame, λ listed. goes_by codec job seen (found_as there frame) (tail (found_as there frame)) x xs end (Seeks (GetsSchema looked k)) (get_schema k) refl (λ same. follows listed))
    where
      SchemaFor : Reply → Type 0
      SchemaFor r = (there : Schema) × (frame : Frame)
          × (IsCurrentKey job seen k → Follows codec job seen (found_as there frame) (tail (found_as there frame)) (record { call = get_schema k; reply = r }) xs end (goes codec job (Seeks (GetsSchema looked k)) r))

      by_attrs : (bytes : List ℕ) (a : Result (List Attr) ℕ) → schema_of bytes ≡ a → SchemaFor (reply.Bytes bytes)
      by_attrs bytes (Ok attrs) is =
          let there : Schema = record { key = k; attrs = attrs } in
          let y : Exchange = record { call = get_schema k; reply = reply.Bytes bytes } in
          let (frame, later) = frame_found there (seen ++ y ∷ []) xs end (λ z at. among_more seen y z (since z at)) in (
            there,
            frame,
            λ listed. rw is (follows_on codec job seen (found_as there frame) (tail (found_as there frame)) (tail (found_as there frame)) y xs end (Seeks (GetsFrame looked there))
                (says_schema (found_as there frame) k (reply.Bytes bytes) (rw is refl)) refl (inl (looks_schema seen k (found_as there frame) listed, refl))
                (later (record { key = key_stays job seen (seen ++ y ∷ []) k (among_more seen y) listed; spelled = (bytes, Contains-push seen y, is) }))),
          )
      by_attrs bytes (Err at) is =
          let y : Exchange = record { call = get_schema k; reply = reply.Bytes bytes } in (
            no_schema,
            no_frame,
            λ listed. rw is (follows_refused codec job seen (found_as no_schema no_frame) (tail (found_as no_schema no_frame)) (tail (found_as no_schema no_frame)) y xs end (refusal.Damaged (name.Schema k) at)
                (says_schema (found_as no_schema no_frame) k (reply.Bytes bytes) (silent_schema (found_as no_schema no_frame) k at bytes is)) (inl (looks_schema seen k (found_as no_schema no_frame) listed, refl)) (inl (bytes, Contains-push seen y, is))),
          )

      other : (r : Reply) → OfBytes (λ bytes. IsSchemaIn no_schema k (schema_of bytes)) r → IsCurrentKey job seen k → Follows codec job seen (found_as no_schema no_frame) (tail (found_as no_schema no_frame)) (record { call = get_schema k; reply = r }) xs end (ended (get_schema k) r)
      other r quiet listed =
          follows_ended codec job seen (found_as no_schema no_frame) (tail (found_as no_schema no_frame)) (tail (found_as no_schema no_frame)) (get_schema k) r xs end tt (says_schema (found_as no_schema no_frame) k r quiet) (inl (looks_schema seen k (found_as no_schema no_frame) listed, refl))

      by_reply : (r : Reply) → SchemaFor r
      by_reply (reply.Bytes bytes) = by_attrs bytes (schema_of bytes) refl
      by_reply r = (no_schema, no_frame, λ listed. other r tt listed)

  -- the listing of the schemas comes first
  pub schemas_found : (seen xs : List Exchange) (end : Outcome) → AreAmong early seen
      → (there : Schema) × (frame : Frame) × Goes codec job seen (found_as there frame) (list_schemas ∷ tail (found_as there frame)) xs end (Seeks (ListsSchemas looked))
  schemas_found seen [] end since = (no_schema, no_frame, goes_none codec job seen (found_as no_schema no_frame) (list_schemas ∷ tail (found_as no_schema no_frame)) end (Seeks (ListsSchemas looked)) (λ o q. cc))
  schemas_found seen (x ∷ xs) end since =
      let (there, frame, follows) = by_reply x.reply in
      (there, frame, goes_by codec job seen (found_as there frame) (list_schemas ∷ tail (found_as there frame)) x xs end (Seeks (ListsSchemas looked)) list_schemas refl (λ same. follows))
    where
      ListedFor : Reply → Type 0
      ListedFor r = (there : Schema) × (frame : Frame) × Follows codec job seen (found_as there frame) (list_schemas ∷ tail (found_as there frame)) (record { call = list_schemas; reply = r }) xs end (goes codec job (Seeks (ListsSchemas looked)) r)

      by_key : (names : List Name) (k : Option Key) → schema_at (schemas_in names) (looked_at job) ≡ k → ListedFor (reply.Names names)
      by_key names (Some k) is =
          let y : Exchange = record { call = list_schemas; reply = reply.Names names } in
          let (there, frame, later) = schema_found k (seen ++ y ∷ []) xs end (λ z at. among_more seen y z (since z at)) in (
            there,
            frame,
            rw is (follows_on codec job seen (found_as there frame) (list_schemas ∷ tail (found_as there frame)) (tail (found_as there frame)) y xs end (Seeks (GetsSchema looked k))
                (says_list (found_as there frame) (reply.Names names)) refl (inr (refl, tt)) (later (record { names = names; listed = Contains-push seen y; newest = is }))),
          )
      by_key names None is = (
        no_schema,
        no_frame,
        rw is (follows_refused codec job seen (found_as no_schema no_frame) (list_schemas ∷ tail (found_as no_schema no_frame)) (tail (found_as no_schema no_frame)) (record { call = list_schemas; reply = reply.Names names }) xs end
            (refusal.NoSchema (looked_at job)) (says_list (found_as no_schema no_frame) (reply.Names names)) (inr (refl, tt)) (works, names, refl, refl, is)),
      )

      by_reply : (r : Reply) → ListedFor r
      by_reply (reply.Names names) = by_key names (schema_at (schemas_in names) (looked_at job)) refl
      by_reply r =
          (no_schema, no_frame, follows_ended codec job seen (found_as no_schema no_frame) (list_schemas ∷ tail (found_as no_schema no_frame)) (tail (found_as no_schema no_frame)) list_schemas r xs end tt (says_list (found_as no_schema no_frame) r) (inr (refl, tt)))
