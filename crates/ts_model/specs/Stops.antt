-- Stops: where a job is cut off, as by a crash of its process.
use Rattle.std.specs.Prelude.{◌≡◌, ℕ, ◌+◌, Bool, true, false, nat_le, List, [], ◌∷◌, ⊤}
use Rattle.ts_base.specs.declared.heads.Point.{Point}
use Rattle.ts_base.specs.declared.heads.Point.TheVariants.{Vac, Wrt, PartGone}
use Rattle.ts_base.specs.declared.heads.Stop.{Stop}
use Rattle.ts_base.specs.declared.heads.Stop.TheVariants.{Never, Calls, Before}
use Rattle.ts_base.specs.declared.names.Name.TheVariants as name
use Rattle.ts_base.specs.declared.names.CommitKind.TheVariants as kind
use Rattle.ts_store.specs.declared.call.Call.{Call}
use Rattle.ts_store.specs.declared.call.Call.TheVariants as call
use Rattle.ts_model.specs.States.{Exchange}

-- the call is one of that kind: a put of a `.vac`, a put of a `.wrt`, the removal of a part
abbrev pub is_point : Point → Call → Bool
is_point Vac (call.Put (name.Commit f kind.Vac) bytes) = true
is_point Wrt (call.Put (name.Commit f kind.Wrt) bytes) = true
is_point PartGone (call.Remove (name.Part f part)) = true
is_point _ _ = false

-- the stop cuts a job off where it would make this call after so many others
abbrev pub cuts : Stop → ℕ → Call → Bool
cuts Never made c = false
cuts (Calls most) made c = nat_le most made
cuts (Before point) made c = is_point point c

-- the stop cut off none of these calls, before which so many were made
abbrev pub Uncut : Stop → ℕ → List Exchange → Type 0
Uncut stop made [] = ⊤
Uncut stop made (x ∷ xs) = (cuts stop made x.call ≡ false) × Uncut stop (made + 1) xs
