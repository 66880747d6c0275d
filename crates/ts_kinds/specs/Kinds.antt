-- Two ways to write fragments and to read them as one: the first in dense arrays, the second in sparse ones.
use Rattle.std.specs.Prelude.{ℕ, Bool, true, false, if◌then◌else◌, Result, Ok, Err}
use Rattle.ts_base.specs.declared.heads.Piece.{Piece}
use Rattle.ts_store.specs.declared.call.Reply.{Reply}
use Rattle.ts_schema.specs.declared.frames.Frame.{Frame}
use Rattle.ts_schema.specs.declared.schemas.Schema.{Schema}
use Rattle.ts_schema.specs.declared.wants.Want.{Want}
use Rattle.ts_model.specs.Codecs.{Codec, Stepped, Asks, Takes, Breaks, Spelled, Tracking}
use Rattle.ts_actor.specs.PieceLaws.{Off}
use Rattle.ts_kinds.specs.declared.either_fetch.EitherFetch.{EitherFetch}
use Rattle.ts_kinds.specs.declared.either_fetch.EitherFetch.TheVariants.{Dense, Sparse}

-- the first fact of a dense array, the second of a sparse one
abbrev pub OfKind : Bool → Type 0 → Type 0 → Type 0
OfKind true D S = D
OfKind false D S = S

-- the same step, its fetch seen as one of others
abbrev pub seen_step : {F H : Type 0} → (F → H) → Stepped F → Stepped H
seen_step seen (Asks f c) = Asks (seen f) c
seen_step seen (Takes vs) = Takes vs
seen_step seen (Breaks part at) = Breaks part at

-- the same answer, its fetch seen as one of others
abbrev pub seen_ok : {F H : Type 0} → (F → H) → Result F ℕ → Result H ℕ
seen_ok seen (Ok f) = Ok (seen f)
seen_ok seen (Err at) = Err at

-- a fetch goes on in its own way
abbrev pub either_steps : {F G : Type 0} → Codec F → Codec G → EitherFetch F G → Reply → Stepped (EitherFetch F G)
either_steps d e (Dense f) r = seen_step (λ f. Dense f) (d.steps f r)
either_steps d e (Sparse g) r = seen_step (λ g. Sparse g) (e.steps g r)

-- each array is written in the way of its kind, and a fetch begins in the way of its array
abbrev pub either_codec : {F G : Type 0} → Codec F → Codec G → Codec (EitherFetch F G)
either_codec d e = record {
  writable = λ frame attrs p. OfKind frame.dense (d.writable frame attrs p) (e.writable frame attrs p);
  parts = λ frame s p. if frame.dense then d.parts frame s p else e.parts frame s p;
  head_part = λ frame. if frame.dense then d.head_part frame else e.head_part frame;
  head = λ frame frag object. if frame.dense then d.head frame frag object else e.head frame frag object;
  opens = λ frame s frag object want. if frame.dense then seen_ok (λ f. Dense f) (d.opens frame s frag object want) else seen_ok (λ g. Sparse g) (e.opens frame s frag object want);
  steps = either_steps d e;
}

-- parts spell a piece by the grammar of the array's kind
abbrev pub either_spelled : Spelled → Spelled → Spelled
either_spelled d e frame s p look = OfKind frame.dense (d frame s p look) (e frame s p look)

-- what was got and told is broken by the grammar of the array's kind
abbrev pub either_off : Off → Off → Off
either_off d e frame s frag gots sizes part at = OfKind frame.dense (d frame s frag gots sizes part at) (e frame s frag gots sizes part at)

-- a fetch waits for the reply to a call in its own way
abbrev pub either_tracks : {F G : Type 0} → Tracking F → Tracking G → Tracking (EitherFetch F G)
either_tracks d e frame s p look want (Dense f) c = d frame s p look want f c
either_tracks d e frame s p look want (Sparse g) c = e frame s p look want g c

-- a number that a fetch has in its own way
abbrev pub either_count : {F G : Type 0} → (F → ℕ) → (G → ℕ) → EitherFetch F G → ℕ
either_count d e (Dense f) = d f
either_count d e (Sparse g) = e g

-- a fetch of what is wanted of a piece may make as many gets as the way of the array's kind allows
abbrev pub either_most : (Frame → Schema → Piece → Want → ℕ) → (Frame → Schema → Piece → Want → ℕ) → Frame → Schema → Piece → Want → ℕ
either_most d e frame s p want = if frame.dense then d frame s p want else e frame s p want
