-- How a call went: what its reply tells of the objects before it and after it.
use Rattle.std.proofs.Common.{Bool, List, None, Some, [], ap, cond, false, inl, inr, not, refl, subst, sym, true, ℕ, ◌++◌, ◌∙◌, ◌∷◌, ◌≡◌, ◌⊎◌}
use Rattle.std.proofs.lemmas.Bool.{true≢false}
use Rattle.std.proofs.lemmas.List.{append-nil}
use Rattle.std.specs.Prelude.{option_map, ⊤}
use Rattle.ts_base.specs.Held.{Held}
use Rattle.ts_base.specs.declared.names.Name.{Name}
use Rattle.ts_base.specs.declared.names.Prefix.{Prefix}
use Rattle.ts_law.proofs.HeldLemmas.{Holds}
use Rattle.ts_model.proofs.ListLemmas.{Contains-nil}
use Rattle.ts_model.proofs.Traces.{later_unchanged}
use Rattle.ts_model.specs.Deeds.{History}
use Rattle.ts_model.specs.Codecs.{Spelled}
use Rattle.ts_law.specs.Stands.{DoesName, IsCommitted, Stands}
use Rattle.ts_law.specs.Steps.{Keeps, Leads}
use Rattle.ts_model.specs.Told.{IsReplied, Told, after_told, changes, history_told}
use Rattle.ts_model.specs.declared.commands.Job.{Job}
use Rattle.ts_store.specs.Calls.{after, is_no_memory, names_under, part_of, part_reply, reply_of}
use Rattle.ts_store.specs.declared.call.Call.{Call}
use Rattle.ts_store.specs.declared.call.Reply.{Reply}
use Rattle.ts_store.specs.declared.fate.Fate.{Fate}
use Rattle.ts_store.specs.declared.call.Call.TheVariants as call
use Rattle.ts_store.specs.declared.fate.Fate.TheVariants as fate
use Rattle.std.specs.FinMap as map
use Rattle.ts_store.specs.declared.call.Reply.TheVariants as reply

-- ---- puts

-- a put made an object, or changed nothing
pub data PutWent (m : Held) (n : Name) (bytes : List ℕ) (later : Held) (changed : Bool) (r : Reply) : Type 0 where
  Added : (Holds m n → ⊥) → later ≡ map.insert m n bytes → changed ≡ true → (r ≡ reply.Made) ⊎ (r ≡ reply.Failed) → PutWent m n bytes later changed r
  Still : later ≡ m → changed ≡ false → (r ≡ reply.Made → ⊥) → (r ≡ reply.Taken → Holds m n) → PutWent m n bytes later changed r

module _ (m : Held) (n : Name) (bytes : List ℕ) where
  -- how a put went that was answered
  answered : (f : Fate) → PutWent m n bytes (cond (is_no_memory (reply_of m (call.Put n bytes) f)) m (after m (call.Put n bytes) f)) (changes m (call.Put n bytes) f) (reply_of m (call.Put n bytes) f)
  answered fate.Done = elim (map.contains_key m n) as (λ b. map.contains_key m n ≡ b → PutWent m n bytes (cond (is_no_memory (cond b reply.Taken reply.Made)) m (cond (not b) (map.insert m n bytes) m)) (not b) (cond b reply.Taken reply.Made)) [
    | true ↦ λ held. Still refl refl (λ e. cc) (λ _. held)
    | false ↦ λ free. Added (λ held. true≢false (sym held ∙ free)) refl refl (inl refl)
  ] refl
  answered fate.FailedDone = elim (map.contains_key m n) as (λ b. map.contains_key m n ≡ b → PutWent m n bytes (cond (not b) (map.insert m n bytes) m) (not b) reply.Failed) [
    | true ↦ λ held. Still refl refl (λ e. cc) (λ _. held)
    | false ↦ λ free. Added (λ held. true≢false (sym held ∙ free)) refl refl (inr refl)
  ] refl
  answered fate.FailedSkipped = Still refl refl (λ e. cc) (λ e. cc)
  answered fate.Unknown = Still refl refl (λ e. cc) (λ e. cc)

  -- how a put went
  pub put_went : (e : Told) → e.call ≡ call.Put n bytes → IsReplied m e → PutWent m n bytes (after_told m e) e.changed e.reply
  put_went e is (inl none) = Still (rw none.0 refl) none.1 (λ made. true≢false (sym none.0 ∙ ap is_no_memory made)) (λ taken. absurd (true≢false (sym none.0 ∙ ap is_no_memory taken)))
  put_went e is (inr replied) = rw (replied.1, replied.0, is) (answered e.fate)

-- ---- looks

-- a choice between one thing is that thing
pub cond_same : {A : Type 0} (b : Bool) (x : A) → cond b x x ≡ x
cond_same true x = refl
cond_same false x = refl

-- the calls that only look
abbrev pub IsLook : Call → Type 0
IsLook (call.List p) = ⊤
IsLook (call.Get n from len) = ⊤
IsLook (call.Size n) = ⊤
IsLook _ = ⊥

-- a look leaves what is held as it is
after-look : (m : Held) (c : Call) (f : Fate) → IsLook c → after m c f ≡ m
after-look m (call.List p) f look = refl
after-look m (call.Get n from len) f look = refl
after-look m (call.Size n) f look = refl
after-look m (call.Put n bytes) f look = absurd look
after-look m (call.Remove n) f look = absurd look

-- a look counts as no change
changes-look : (m : Held) (c : Call) (f : Fate) → IsLook c → changes m c f ≡ false
changes-look m (call.List p) f look = refl
changes-look m (call.Get n from len) f look = refl
changes-look m (call.Size n) f look = refl
changes-look m (call.Put n bytes) f look = absurd look
changes-look m (call.Remove n) f look = absurd look

-- a look changes nothing
pub look_stays : (m : Held) (e : Told) → IsLook e.call → IsReplied m e → (after_told m e ≡ m) × (e.changed ≡ false)
look_stays m e look replied = (rw (after-look m e.call e.fate look) (cond_same (is_no_memory e.reply) m), still replied)
  where
    still : IsReplied m e → e.changed ≡ false
    still (inl none) = none.1
    still (inr said) = said.1 ∙ changes-look m e.call e.fate look

-- a look appends no deed
pub look_history : (jobs : List Job) (past : History) (seen : List Told) (e : Told) (m : Held) → IsLook e.call → IsReplied m e → history_told jobs past (seen ++ e ∷ []) ≡ history_told jobs past seen
look_history jobs past seen e m look replied = later_unchanged jobs past seen e (look_stays m e look replied).1

-- what stays as it was keeps all
pub keeps_still : (m m' : Held) (h h' : History) (id : ℕ) → m' ≡ m → h' ≡ h → Keeps m m' h h' id
keeps_still m m' h h' id same_held same_history = record {
  keeps = λ n bytes _ e. subst (λ x. map.get x n ≡ Some bytes) (sym same_held) e;
  adds = λ n bytes e. inl (subst (λ x. map.get x n ≡ Some bytes) same_held e);
  names = λ g f committed named. inr (g, subst (λ x. IsCommitted x g) same_held committed, subst (λ x. DoesName x g f) same_held named);
  more = [];
  grows = same_history ∙ sym (append-nil h);
  come = λ k at. absurd (Contains-nil k at);
}

-- what stays as it was leads nowhere else
pub still_leads : (spelled : Spelled) (past : History) (jobs : List Job) (seen : List Told) (e : Told) (m : Held) (id : ℕ) → Stands spelled m (history_told jobs past seen)
    → after_told m e ≡ m → history_told jobs past (seen ++ e ∷ []) ≡ history_told jobs past seen → Leads spelled past jobs seen e m id
still_leads spelled past jobs seen e m id stands same_held same_history = record {
  stands = subst (Stands spelled (after_told m e)) (sym same_history) (subst (λ x. Stands spelled x (history_told jobs past seen)) (sym same_held) stands);
  leaves = keeps_still m (after_told m e) (history_told jobs past seen) (history_told jobs past (seen ++ e ∷ [])) id same_held same_history;
}

-- a look leads nowhere else
pub look_leads : (spelled : Spelled) (past : History) (jobs : List Job) (seen : List Told) (e : Told) (m : Held) (id : ℕ) → Stands spelled m (history_told jobs past seen)
    → IsLook e.call → IsReplied m e → Leads spelled past jobs seen e m id
look_leads spelled past jobs seen e m id stands look replied =
    still_leads spelled past jobs seen e m id stands (look_stays m e look replied).0 (look_history jobs past seen e m look replied)

-- ---- what looks tell

-- a listing tells the names that are held under its prefix
pub listed : (m : Held) (e : Told) (p : Prefix) (names : List Name) → e.call ≡ call.List p → IsReplied m e → e.reply ≡ reply.Names names → names ≡ names_under p m
listed m e p names is (inl none) said = absurd (true≢false (sym none.0 ∙ ap is_no_memory said))
listed m e p names is (inr replied) said = from_fate e.fate (sym said ∙ replied.0 ∙ ap (λ c. reply_of m c e.fate) is)
  where
    from_fate : (f : Fate) → reply.Names names ≡ reply_of m (call.List p) f → names ≡ names_under p m
    from_fate fate.Done e = cc
    from_fate fate.FailedDone e = cc
    from_fate fate.FailedSkipped e = cc
    from_fate fate.Unknown e = cc

-- what a get tells of the object
pub record Got (m : Held) (n : Name) (from len : ℕ) (r : Reply) : Type 0 where
  pub bytes : (found : List ℕ) → r ≡ reply.Bytes found → (whole : List ℕ) × (map.get m n ≡ Some whole) × (found ≡ part_of from len whole)
  pub absent : r ≡ reply.Absent → map.get m n ≡ None

-- a get tells what is held
pub got : (m : Held) (e : Told) (n : Name) (from len : ℕ) → e.call ≡ call.Get n from len → IsReplied m e → Got m n from len e.reply
got m e n from len is (inl none) = record {
  bytes = λ found said. absurd (true≢false (sym none.0 ∙ ap is_no_memory said));
  absent = λ said. absurd (true≢false (sym none.0 ∙ ap is_no_memory said));
}
got m e n from len is (inr replied) = rw (replied.0, is) (from_fate e.fate)
  where
    from_fate : (f : Fate) → Got m n from len (reply_of m (call.Get n from len) f)
    from_fate fate.Done = elim (map.get m n) as (λ o. map.get m n ≡ o → Got m n from len (part_reply (option_map (part_of from len) o))) [
      | None ↦ λ e. record { bytes = λ found said. cc; absent = λ _. e }
      | Some whole ↦ λ e. record { bytes = λ found said. (whole, e, cc); absent = λ said. cc }
    ] refl
    from_fate fate.FailedDone = record { bytes = λ found said. cc; absent = λ said. cc }
    from_fate fate.FailedSkipped = record { bytes = λ found said. cc; absent = λ said. cc }
    from_fate fate.Unknown = record { bytes = λ found said. cc; absent = λ said. cc }
