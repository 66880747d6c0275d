-- Which identifiers calls spend: what is spent stays so, and a call spends at most the one that its `.wrt` carries.
use Rattle.std.proofs.Common.{◌≡◌, ℕ, Bool, true, false, cond, ◌⊎◌, inl, inr, List, [], ◌∷◌, ◌++◌, refl, sym, ◌∙◌, ap, subst}
use Rattle.std.proofs.lemmas.Bool.{true≢false}
use Rattle.std.proofs.lemmas.List.Elements.{Contains-append_left, Contains-append_right, Contains-append_cases}
use Rattle.ts_base.specs.declared.keys.FragKey.{FragKey}
use Rattle.ts_base.specs.declared.names.Name.{Name}
use Rattle.ts_base.specs.Names.{wrt_of}
use Rattle.ts_base.specs.Held.{Held}
use Rattle.ts_store.specs.declared.call.Call.{Call}
use Rattle.ts_store.specs.declared.call.Call.TheVariants as call
use Rattle.ts_store.specs.Calls.{after, is_no_memory}
use Rattle.ts_model.specs.Deeds.{History}
use Rattle.ts_model.specs.Told.{IsReplied, Told, after_told}
use Rattle.ts_model.proofs.ListLemmas.{Contains-here, Contains-only}
use Rattle.ts_law.specs.Fresh.{AreSpent, DoesCommit, IsSpent}
use Rattle.ts_law.specs.Stands.{DoesName, IsCommitted, IsNamed}
use Rattle.ts_law.proofs.Effects.{Added, IsLook, PutWent, Still, look_stays, put_went}
use Rattle.ts_law.proofs.HeldLemmas.{Holds-from_get, bytes_there, held_before, removal_before}

-- ---- what a call commits

-- a call that changes nothing commits nothing
pub still_commits : (e : Told) (id : ℕ) → e.changed ≡ false → DoesCommit e id → ⊥
still_commits e id still is = true≢false (sym is.changed ∙ still)

-- nor does the put of what is no `.wrt`
pub put_commits : (e : Told) (id : ℕ) (n : Name) (bytes : List ℕ) → e.call ≡ call.Put n bytes → ((f : FragKey) → wrt_of f ≡ n → ⊥) → DoesCommit e id → ⊥
put_commits e id n bytes puts apart is = apart is.frag (one_name (wrt_of is.frag) n is.bytes bytes (sym is.puts ∙ puts))
  where
    one_name : (p q : Name) (xs ys : List ℕ) → call.Put p xs ≡ call.Put q ys → p ≡ q
    one_name p q xs ys same = cc

-- a fragment that is committed after a call was so before it, or the call commits it
pub committed_by : (m : Held) (e : Told) (f : FragKey) → IsReplied m e → IsCommitted (after_told m e) f → IsCommitted m f ⊎ DoesCommit e f.id
committed_by m e f replied committed = by_call e.call refl
  where
    by_put : (n : Name) (bytes : List ℕ) → e.call ≡ call.Put n bytes → PutWent m n bytes (after_told m e) e.changed e.reply → IsCommitted m f ⊎ DoesCommit e f.id
    by_put n bytes is (Added free later changed said) = elim (held_before m n bytes (wrt_of f) (subst (λ x. IsCommitted x f) later committed)) [
      | inl before ↦ inl before
      | inr same ↦ inr (record { frag = f; bytes = bytes; puts = is ∙ ap (λ p. call.Put p bytes) (sym same); changed = changed; carries = refl })
    ]
    by_put n bytes is (Still later still made taken) = inl (subst (λ x. IsCommitted x f) later committed)

    by_look : IsLook e.call → IsCommitted m f ⊎ DoesCommit e f.id
    by_look look = inl (subst (λ x. IsCommitted x f) (look_stays m e look replied).0 committed)

    by_removal : (n : Name) (b : Bool) → e.call ≡ call.Remove n → IsCommitted (cond b m (after m e.call e.fate)) f → IsCommitted m f
    by_removal n true is there = there
    by_removal n false is there =
        let found = bytes_there (after m (call.Remove n) e.fate) (wrt_of f) (subst (λ c. IsCommitted (after m c e.fate) f) is there) in
        Holds-from_get m (wrt_of f) found.0 (removal_before m n e.fate (wrt_of f) found.0 found.1)

    by_call : (c : Call) → e.call ≡ c → IsCommitted m f ⊎ DoesCommit e f.id
    by_call (call.Put n bytes) is = by_put n bytes is (put_went m n bytes e is replied)
    by_call (call.Remove n) is = inl (by_removal n (is_no_memory e.reply) is committed)
    by_call (call.List p) is = by_look (subst IsLook (sym is) tt)
    by_call (call.Get n from len) is = by_look (subst IsLook (sym is) tt)
    by_call (call.Size n) is = by_look (subst IsLook (sym is) tt)

-- ---- what is spent

-- what is spent stays so
pub spent_on : (opening : Held) (past : History) (seen more : List Told) (id : ℕ) → IsSpent opening past seen id → IsSpent opening past (seen ++ more) id
spent_on opening past seen more id (inl carried) = inl carried
spent_on opening past seen more id (inr (e, at, commits)) = inr (e, Contains-append_left seen more e at, commits)

module _ (opening : Held) (past : History) (seen : List Told) (e : Told) where
  -- an identifier that is not spent stays so by a call that does not commit it
  pub unspent_on : (id : ℕ) → (DoesCommit e id → ⊥) → (IsSpent opening past seen id → ⊥) → IsSpent opening past (seen ++ e ∷ []) id → ⊥
  unspent_on id none unspent (inl carried) = unspent (inl carried)
  unspent_on id none unspent (inr (d, at, commits)) = elim (Contains-append_cases seen (e ∷ []) d at) [
    | inl before ↦ unspent (inr (d, before, commits))
    | inr last ↦ none (subst (λ x. DoesCommit x id) (sym (Contains-only e d last)) commits)
  ]

  -- all goes on being spent by a call after which each fragment that is named was committed or named before it
  pub are_spent_on : (m : Held) → IsReplied m e → ((g f : FragKey) → IsCommitted (after_told m e) g → DoesName (after_told m e) g f → IsCommitted m f ⊎ IsNamed m f)
      → AreSpent opening past seen m → AreSpent opening past (seen ++ e ∷ []) (after_told m e)
  are_spent_on m replied names are = record {
    committed = λ f committed. elim (committed_by m e f replied committed) [
      | inl before ↦ spent_on opening past seen (e ∷ []) f.id (are.committed f before)
      | inr commits ↦ inr (e, Contains-append_right seen (e ∷ []) e (Contains-here e []), commits)
    ];
    named = λ f named. elim (names named.0 f named.1 named.2) [
      | inl committed ↦ spent_on opening past seen (e ∷ []) f.id (are.committed f committed)
      | inr before ↦ spent_on opening past seen (e ∷ []) f.id (are.named f before)
    ];
  }
