-- What goes on from the beginning: calls that may come, where there is one more of them or one job more, and an identifier that is new.
use Rattle.std.proofs.Common.{List, Some, [], append_assoc, arith, inl, inr, length, subst, sym, ℕ, ◌++◌, ◌∷◌, ◌≡◌}
use Rattle.std.specs.Prelude.{All}
use Rattle.std.proofs.lemmas.List.{append-nil}
use Rattle.std.proofs.lemmas.List.Elements.{All-head, All-push, All-tail, All-weaker}
use Rattle.ts_model.proofs.ListLemmas.{slice_get_left}
use Rattle.ts_base.specs.Held.{Held}
use Rattle.ts_model.specs.declared.commands.Job.{Job}
use Rattle.ts_model.specs.Codecs.{Codec}
use Rattle.ts_model.specs.Deeds.{History}
use Rattle.ts_model.specs.Told.{Told, trace_of}
use Rattle.ts_base.specs.declared.names.Name.TheVariants as name
use Rattle.ts_law.specs.Fresh.{IsNewId}
use Rattle.ts_law.specs.Kept.{AreAllowed, AreAmong, MayCome}
use Rattle.ts_law.specs.Lanes.{IsWithin}
use Rattle.ts_law.proofs.Lanes.{none_made}
use Rattle.ts_law.proofs.Leasing.{nobodys_more}

-- one call more may come
pub allowed_push : {F : Type 0} (codec : Codec F) (jobs : List Job) (dead last : List ℕ) (seen told : List Told) (e : Told) → AreAllowed codec jobs dead last seen told → MayCome codec jobs last (seen ++ told) e → AreAllowed codec jobs dead last seen (told ++ e ∷ [])
allowed_push codec jobs dead last seen [] e may comes = (last, may, subst (λ t. MayCome codec jobs last t e) (append-nil seen) comes, (λ n at. at))
allowed_push codec jobs dead last seen (d ∷ told) e (now, among, first, rest) comes =
    (now, among, first, allowed_push codec jobs now last (seen ++ d ∷ []) told e rest (subst (λ t. MayCome codec jobs last t e) (sym (append_assoc seen (d ∷ []) told)) comes))

-- in the end more jobs may be dropped
pub allowed_drop : {F : Type 0} (codec : Codec F) (jobs : List Job) (dead last more : List ℕ) (seen told : List Told) → AreAmong last more → AreAllowed codec jobs dead last seen told → AreAllowed codec jobs dead more seen told
allowed_drop codec jobs dead last more seen [] among may = λ n at. among n (may n at)
allowed_drop codec jobs dead last more seen (e ∷ told) among (now, before, first, rest) = (now, before, first, allowed_drop codec jobs now last more (seen ++ e ∷ []) told among rest)

-- they may come where there is one job more
pub allowed_more : {F : Type 0} (codec : Codec F) (jobs : List Job) (job : Job) (dead last : List ℕ) (seen told : List Told) → All (IsWithin jobs) seen → All (IsWithin jobs) told
    → AreAllowed codec jobs dead last seen told → AreAllowed codec (jobs ++ job ∷ []) dead last seen told
allowed_more codec jobs job dead last seen [] before within may = may
allowed_more {F} codec jobs job dead last seen (e ∷ told) before within (now, among, first, rest) = (
  now,
  among,
  comes first,
  allowed_more codec jobs job now last (seen ++ e ∷ []) told (All-push (IsWithin jobs) seen e before (All-head (IsWithin jobs) e told within)) (All-tail (IsWithin jobs) e told within) rest,
)
  where
    none : trace_of (length jobs) seen ≡ []
    none = none_made (length jobs) seen (All-weaker (IsWithin jobs) (λ d. d.job ≡ Some (length jobs) → ⊥) (λ d below own. let less = below (length jobs) own in omega (arith, less)) seen before)

    comes : MayCome codec jobs now seen e → MayCome codec (jobs ++ job ∷ []) now seen e
    comes (inl is) = inl (record {
      number = is.number;
      job = is.job;
      own = is.own;
      is_job = slice_get_left jobs (job ∷ []) is.number is.job is.is_job;
      alive = is.alive;
      asked = is.asked;
      spares = λ lease removes other. nobodys_more codec jobs job now seen lease none (is.spares lease removes other);
      short = is.short;
    })
    comes (inr is) = inr (record { nobodys = is.nobodys; key = is.key; mode = is.mode; removes = is.removes; free = nobodys_more codec jobs job now seen (name.Lease is.key is.mode) none is.free })

-- an identifier that is new now was so at the beginning
pub new_at_first : (opening : Held) (past : History) (m : Held) (jobs : List Job) (id : ℕ) → IsNewId opening past m jobs id → IsNewId opening past opening jobs id
new_at_first opening past m jobs id new = record { uncarried = new.uncarried; free = λ held. new.uncarried (inr (inl held)); other = new.other }
