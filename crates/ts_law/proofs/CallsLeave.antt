-- What one call leaves of an object that it does not put, or does not remove either.
use Rattle.std.proofs.Common.{◌≡◌, ℕ, Bool, true, false, cond, ◌&&◌, not, List, Some, refl, sym, ◌∙◌, ap}
use Rattle.std.specs.FinMap as map
use Rattle.ts_base.specs.Held.{Held}
use Rattle.ts_base.specs.declared.names.Name.{Name}
use Rattle.ts_store.specs.Calls.{after, is_no_memory, took_effect}
use Rattle.ts_store.specs.declared.call.Call.{Call}
use Rattle.ts_store.specs.declared.call.Call.TheVariants as call
use Rattle.ts_store.specs.declared.fate.Fate.{Fate}
use Rattle.ts_model.specs.Told.{Told, after_told}
use Rattle.ts_law.proofs.HeldLemmas.{agree, get_apart, removal_apart, removal_before}

-- the call does not put the object
abbrev pub PutsNot : Name → Call → Type 0
PutsNot n c = (bytes : List ℕ) → c ≡ call.Put n bytes → ⊥

-- nor does it remove it
abbrev pub RemovesNot : Name → Call → Type 0
RemovesNot n c = c ≡ call.Remove n → ⊥

put_apart : (m : Held) (q : Name) (bytes : List ℕ) (n : Name) → PutsNot n (call.Put q bytes) → map.get (map.insert m q bytes) n ≡ map.get m n
put_apart m q bytes n puts = get_apart m q bytes n (λ same. puts bytes (ap (λ x. call.Put x bytes) (sym same)))

-- an object that a call neither puts nor removes is as it was
after_same : (m : Held) (c : Call) (f : Fate) (n : Name) → PutsNot n c → RemovesNot n c → map.get (after m c f) n ≡ map.get m n
after_same m (call.Put q bytes) f n puts removes = agree (took_effect f && not (map.contains_key m q)) (map.insert m q bytes) m m n (put_apart m q bytes n puts) refl
after_same m (call.Remove q) f n puts removes = removal_apart m q f n (λ same. removes (ap call.Remove (sym same)))
after_same m (call.List prefix) f n puts removes = refl
after_same m (call.Get q from len) f n puts removes = refl
after_same m (call.Size q) f n puts removes = refl

-- one that it does not put was there before, if it is there now
after_before : (m : Held) (c : Call) (f : Fate) (n : Name) (bytes : List ℕ) → PutsNot n c → map.get (after m c f) n ≡ Some bytes → map.get m n ≡ Some bytes
after_before m (call.Put q more) f n bytes puts is = sym (agree (took_effect f && not (map.contains_key m q)) (map.insert m q more) m m n (put_apart m q more n puts) refl) ∙ is
after_before m (call.Remove q) f n bytes puts is = removal_before m q f n bytes is
after_before m (call.List prefix) f n bytes puts is = is
after_before m (call.Get q from len) f n bytes puts is = is
after_before m (call.Size q) f n bytes puts is = is

pub told_same : (m : Held) (e : Told) (n : Name) → PutsNot n e.call → RemovesNot n e.call → map.get (after_told m e) n ≡ map.get m n
told_same m e n puts removes = agree (is_no_memory e.reply) m (after m e.call e.fate) m n refl (after_same m e.call e.fate n puts removes)

pub told_before : (m : Held) (e : Told) (n : Name) (bytes : List ℕ) → PutsNot n e.call → map.get (after_told m e) n ≡ Some bytes → map.get m n ≡ Some bytes
told_before m e n bytes puts is = by (is_no_memory e.reply) is
  where
    by : (b : Bool) → map.get (cond b m (after m e.call e.fate)) n ≡ Some bytes → map.get m n ≡ Some bytes
    by true there = there
    by false there = after_before m e.call e.fate n bytes puts there
