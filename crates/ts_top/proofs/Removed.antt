-- What calls leave of an object: one that is not put does not come back, and one that is not removed either stays.
use Rattle.std.proofs.Common.{◌≡◌, inl, inr, ℕ, Bool, true, false, cond, Equal, List, [], ◌∷◌, ◌++◌, Option, Some, None, drop, get_or, refl, sym, ◌∙◌, ap, subst}
use Rattle.std.specs.Prelude.{Contains, IsTrue, filter, map as list_map}
use Rattle.std.specs.FinMap.Entries.{find, find-where_key, is_sorted-where_key, same_entries}
use Rattle.std.specs.List.{cons_option}
use Rattle.std.specs.FinMap as map
use Rattle.std.proofs.lemmas.Bool.{true≢false}
use Rattle.std.proofs.lemmas.Option.{none-some}
use Rattle.ts_base.specs.Exact.{name_total, name_exact}
use Rattle.ts_base.specs.Held.{Held}
use Rattle.ts_base.specs.Names.{is_under, name_cmp}
use Rattle.ts_base.specs.declared.names.Name.{Name}
use Rattle.ts_store.specs.Calls.{names_under}
use Rattle.ts_store.specs.declared.call.Call.{Call}
use Rattle.ts_store.specs.declared.call.Call.TheVariants as call
use Rattle.ts_store.specs.declared.call.Reply.{Reply}
use Rattle.ts_store.specs.declared.call.Reply.TheVariants as reply
use Rattle.ts_store.specs.declared.fate.Fate.TheVariants as fate
use Rattle.ts_model.specs.States.{Exchange}
use Rattle.ts_base.specs.declared.names.Prefix.{Prefix}
use Rattle.ts_model.specs.Told.{Suits, Told, Replied, after_told, exchange_of, held_told, trace_of}
use Rattle.ts_model.proofs.ListLemmas.{Contains-cons, Contains-filter_map, Contains-here, Contains-nil, Contains-there, filter_map-Contains}
use Rattle.ts_model.proofs.Traces.{exchange_of_own}
use Rattle.ts_law.specs.Courses.{Along, Looks, lets_on}
pub use Rattle.ts_law.proofs.CallsLeave.{PutsNot, RemovesNot}
use Rattle.ts_law.proofs.CallsLeave.{told_before, told_same}
use Rattle.ts_top.proofs.LeasesTold.{gone}

-- ---- one object, by calls

-- each of the calls has this
abbrev pub Each : (Call → Type 0) → List Told → Type 0
Each P told = (e : Told) → Contains told e → P e.call

later_each : (P : Call → Type 0) (e : Told) (told : List Told) → Each P (e ∷ told) → Each P told
later_each P e told each x at = each x (Contains-there e told x at)

-- an object that none of the calls puts or removes is as it was
pub held_same : (m : Held) (told : List Told) (n : Name) → Each (PutsNot n) told → Each (RemovesNot n) told → map.get (held_told m told) n ≡ map.get m n
held_same m [] n puts removes = refl
held_same m (e ∷ told) n puts removes =
    held_same (after_told m e) told n (later_each (PutsNot n) e told puts) (later_each (RemovesNot n) e told removes) ∙ told_same m e n (puts e (Contains-here e told)) (removes e (Contains-here e told))

-- one that none of them puts was there before them, if it is there after them
pub held_before_them : (m : Held) (told : List Told) (n : Name) (bytes : List ℕ) → Each (PutsNot n) told → map.get (held_told m told) n ≡ Some bytes → map.get m n ≡ Some bytes
held_before_them m [] n bytes puts is = is
held_before_them m (e ∷ told) n bytes puts is = told_before m e n bytes (puts e (Contains-here e told)) (held_before_them (after_told m e) told n bytes (later_each (PutsNot n) e told puts) is)

-- so one that was not there is not there
pub gone_stays : (m : Held) (told : List Told) (n : Name) → Each (PutsNot n) told → map.get m n ≡ None → map.get (held_told m told) n ≡ None
gone_stays m told n puts none = by (map.get (held_told m told) n) refl
  where
    by : (o : Option (List ℕ)) → map.get (held_told m told) n ≡ o → map.get (held_told m told) n ≡ None
    by None is = is
    by (Some bytes) is = absurd (none-some bytes (sym none ∙ held_before_them m told n bytes puts is))

-- one that one of them removed is not there
pub removed_gone : (m : Held) (told : List Told) (n : Name) → Each (PutsNot n) told → (e : Told) → Contains told e → e.call ≡ call.Remove n → e.reply ≡ reply.Removed → e.fate ≡ fate.Done → map.get (held_told m told) n ≡ None
removed_gone m [] n puts e at calls replies did = absurd (Contains-nil e at)
removed_gone m (x ∷ told) n puts e at calls replies did = elim (Contains-cons x told e at) [
  | inl same ↦ gone_stays (after_told m x) told n (later_each (PutsNot n) x told puts) (subst (λ y. map.get (after_told m y) n ≡ None) (sym same) (gone m e n calls replies did))
  | inr later ↦ removed_gone (after_told m x) told n (later_each (PutsNot n) x told puts) e later calls replies did
]

-- ---- along a course

-- each call along a course is a look or one of the course
pub along_calls : (looks : Looks) (P : Call → Type 0) → ((before : List Exchange) (c : Call) → looks before c → P c) → (before : List Exchange) (course : List Call) (trace : List Exchange) (left : List Call)
    → Along looks before course trace left → ((c : Call) → Contains course c → P c) → (x : Exchange) → Contains trace x → P x.call
along_calls looks P of_look before course [] left along each x at = absurd (Contains-nil x at)
along_calls looks P of_look before course (y ∷ trace) left (on, (rest, next, more)) each x at = elim (Contains-cons y trace x at) [
  | inl same ↦ elim next [
    | inl look ↦ subst (λ (z : Exchange). P z.call) same (of_look before y.call look.0)
    | inr is ↦ subst (λ (z : Exchange). P z.call) same (each y.call (subst (λ l. Contains l y.call) (sym is) (Contains-here y.call rest)))
  ]
  | inr later ↦ along_calls looks P of_look (before ++ y ∷ []) rest trace left more
      (λ c among. elim next [
        | inl look ↦ each c (subst (λ l. Contains l c) (sym look.1) among)
        | inr is ↦ each c (subst (λ l. Contains l c) (sym is) (Contains-there y.call rest c among))
      ])
      x later
]

-- along a whole course each of its calls is made, and told what lets a job go on
pub along_made : (looks : Looks) (before : List Exchange) (course : List Call) (trace : List Exchange) → Along looks before course trace [] → (c : Call) → Contains course c
    → (x : Exchange) × Contains trace x × (x.call ≡ c) × IsTrue (lets_on x.call x.reply)
along_made looks before course [] along c at = absurd (Contains-nil c (subst (λ l. Contains l c) along at))
along_made looks before course (y ∷ trace) (on, (rest, next, more)) c at = elim next [
  | inl look ↦
      let (x, among, is, lets) = along_made looks (before ++ y ∷ []) rest trace more c (subst (λ l. Contains l c) look.1 at) in
      (x, Contains-there y trace x among, is, lets)
  | inr is ↦ elim (Contains-cons y.call rest c (subst (λ l. Contains l c) is at)) [
    | inl same ↦ (y, Contains-here y trace, same, on)
    | inr later ↦
        let (x, among, same, lets) = along_made looks (before ++ y ∷ []) rest trace more c later in
        (x, Contains-there y trace x among, same, lets)
  ]
]

-- ---- the calls of one job

-- the calls of a job that makes the first of them
pub trace_first : (number : ℕ) (e : Told) (told : List Told) → e.job ≡ Some number → trace_of number (e ∷ told) ≡ record { call = e.call; reply = e.reply } ∷ trace_of number told
trace_first number e told own = ap (λ o. cons_option o (trace_of number told)) (exchange_of_own number e own)

-- the exchange of a call that the job made
pub exchange_among : (number : ℕ) (told : List Told) (e : Told) → Contains told e → e.job ≡ Some number → Contains (trace_of number told) (record { call = e.call; reply = e.reply })
exchange_among number told e at own = Contains-filter_map (exchange_of number) told e (record { call = e.call; reply = e.reply }) at (exchange_of_own number e own)

-- the call of an exchange
pub call_among : (number : ℕ) (told : List Told) (x : Exchange) → ((e : Told) → Contains told e → e.job ≡ Some number) → Contains (trace_of number told) x → (e : Told) × Contains told e × (e.call ≡ x.call) × (e.reply ≡ x.reply)
call_among number told x own at =
    let (e, among, is) = filter_map-Contains (exchange_of number) told x at in
    let same : Some (record { call = e.call; reply = e.reply }) ≡ Some x = sym (exchange_of_own number e (own e among)) ∙ is in
    (e, among, ap (λ o. call_in e o) same, ap (λ o. reply_in e o) same)
  where
    call_in : Told → Option Exchange → Call
    call_in e None = e.call
    call_in e (Some y) = y.call

    reply_in : Told → Option Exchange → Reply
    reply_in e None = e.reply
    reply_in e (Some y) = y.reply

-- replies over what was held before are those of the later calls
pub Replied-back : (m : Held) (a b : List Told) → Replied m (a ++ b) → Replied (held_told m a) b
Replied-back m [] b is = is
Replied-back m (e ∷ a) b is = Replied-back (after_told m e) a b is.1

-- ---- the next call along a course

-- a call of the job, which is the next one along a course, and goes on
pub record NextCall (number : ℕ) (looks : Looks) (before : List Exchange) (c : Call) (course : List Call) (told : List Told) : Type 0 where
  pub first : Told
  pub later : List Told
  pub parts : told ≡ first ∷ later
  pub calls : first.call ≡ c
  pub lets : IsTrue (lets_on c first.reply)
  pub rest : Along looks (before ++ record { call = first.call; reply = first.reply } ∷ []) course (trace_of number later) []

-- where no look may come, the next call of a job is the next one along its course
pub next_call : (number : ℕ) (looks : Looks) (before : List Exchange) (c : Call) (course : List Call) (told : List Told) → ((e : Told) → Contains told e → e.job ≡ Some number) → ((x : Call) → looks before x → ⊥)
    → Along looks before (c ∷ course) (trace_of number told) [] → NextCall number looks before c course told
next_call number looks before c course [] own none along = absurd (let no : c ∷ course ≡ [] = along in cc)
next_call number looks before c course (e ∷ later) own none along = by (subst (λ t. Along looks before (c ∷ course) t []) (trace_first number e later (own e (Contains-here e later))) along)
  where
    x : Exchange
    x = record { call = e.call; reply = e.reply }

    by : Along looks before (c ∷ course) (x ∷ trace_of number later) [] → NextCall number looks before c course (e ∷ later)
    by (on, (rest, next, more)) = elim next [
      | inl look ↦ absurd (none e.call look.0)
      | inr is ↦
          let calls : c ≡ e.call = ap (λ l. get_or l 0 c) is in
          record {
            first = e;
            later = later;
            parts = refl;
            calls = sym calls;
            lets = subst (λ q. IsTrue (lets_on q e.reply)) (sym calls) on;
            rest = subst (λ l. Along looks (before ++ x ∷ []) l (trace_of number later) []) (sym (ap (drop 1) is)) more;
          }
    ]

-- a listing that goes on was told names
pub told_names : (prefix : Prefix) (r : Reply) → IsTrue (lets_on (call.List prefix) r) → (names : List Name) × (r ≡ reply.Names names)
told_names prefix (reply.Names names) on = (names, refl)
told_names prefix _ on = absurd (true≢false (sym on))

-- a removal that goes on was told that the object is removed
pub told_removed_by : (n : Name) (r : Reply) → IsTrue (lets_on (call.Remove n) r) → r ≡ reply.Removed
told_removed_by n reply.Removed on = refl
told_removed_by n _ on = absurd (true≢false (sym on))

-- a call that was told of no failure did what it was asked for
pub did_it : (e : Told) (r : Reply) → Suits e → e.reply ≡ r → (reply.Failed ≡ r → ⊥) → e.fate ≡ fate.Done
did_it e r suits is other = suits.served (λ failed. other (sym failed ∙ is))

-- ---- listings

-- the keys that pass a test are those of the entries whose keys pass it
keys_passing : (p : Name → Bool) (es : List (Name × List ℕ)) → filter p (list_map (λ (e : Name × List ℕ). e.0) es) ≡ list_map (λ (e : Name × List ℕ). e.0) (filter (λ (e : Name × List ℕ). p e.0) es)
keys_passing p [] = refl
keys_passing p (e ∷ es) =
    elim (p e.0) as (λ b. cond b (e.0 ∷ filter p (list_map (λ (x : Name × List ℕ). x.0) es)) (filter p (list_map (λ (x : Name × List ℕ). x.0) es)) ≡ list_map (λ (x : Name × List ℕ). x.0) (cond b (e ∷ filter (λ (x : Name × List ℕ). p x.0) es) (filter (λ (x : Name × List ℕ). p x.0) es))) [
      | true ↦ ap (λ l. e.0 ∷ l) (keys_passing p es)
      | false ↦ keys_passing p es
    ]

-- where two maps hold the same under a prefix, the same names are held there
pub same_names : (prefix : Prefix) (m n : Held) → ((q : Name) → is_under prefix q ≡ true → map.get m q ≡ map.get n q) → names_under prefix m ≡ names_under prefix n
same_names prefix m n alike = keys_passing (is_under prefix) (map.entries m) ∙ ap (list_map (λ (e : Name × List ℕ). e.0)) same ∙ sym (keys_passing (is_under prefix) (map.entries n))
  where
    tied : (q x : Name) → name_cmp q x ≡ Equal → is_under prefix x ≡ is_under prefix q
    tied q x tie = ap (is_under prefix) (sym (name_exact q x tie))

    found : (q : Name) (b : Bool) → is_under prefix q ≡ b → cond b (find name_cmp q (map.entries m)) None ≡ cond b (find name_cmp q (map.entries n)) None
    found q true is = sym (map.get-entries m q) ∙ alike q is ∙ map.get-entries n q
    found q false is = refl

    same : filter (λ (e : Name × List ℕ). is_under prefix e.0) (map.entries m) ≡ filter (λ (e : Name × List ℕ). is_under prefix e.0) (map.entries n)
    same =
        same_entries name_cmp name_total name_exact _ _ (is_sorted-where_key name_cmp (is_under prefix) (map.entries m) (map.entries_sorted m)) (is_sorted-where_key name_cmp (is_under prefix) (map.entries n) (map.entries_sorted n))
        (λ q. find-where_key name_cmp (is_under prefix) q (tied q) (map.entries m) ∙ found q (is_under prefix q) refl ∙ sym (find-where_key name_cmp (is_under prefix) q (tied q) (map.entries n)))
