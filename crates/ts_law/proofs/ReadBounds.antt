-- What a read may find over objects that stand for a history, and how many gets that allows.
use Rattle.std.proofs.Common.{◌≡◌, ℕ, suc, ◌+◌, ◌≤◌, Bool, true, false, cond, ◌||◌, inl, inr, List, [], ◌∷◌, Some, Result, Ok, Err, length, IsTrue, refl, sym, ◌∙◌, ap, subst, arith}
use Rattle.std.specs.Prelude.{◌≢◌, Contains, map as list_map}
use Rattle.std.specs.List.{AllByRecursion, IsDistinct, sum_by}
use Rattle.std.specs.Ordering.{is_lt, is_eq}
use Rattle.std.specs.declared.cmp.Ordering.{Ordering}
use Rattle.std.specs.declared.cmp.Ordering.TheVariants as ordering
use Rattle.std.specs.FinMap as map
use Rattle.std.specs.FinMap.Entries.{below_all, is_sorted}
use Rattle.std.specs.Set.{is_member, unique_keys}
use Rattle.std.proofs.lemmas.Bool.{and_parts, true≢false}
use Rattle.std.proofs.lemmas.Cmp.{eq_by_cmp_equiv}
use Rattle.std.proofs.lemmas.Map.Keys.{IsDistinct-cons}
use Rattle.std.proofs.lemmas.Map.Made.{length-le_from_is_member}
use Rattle.std.proofs.lemmas.Map.Views.{Contains-from_any, list_any-from_Contains}
use Rattle.ts_base.specs.declared.keys.FragKey.{FragKey}
use Rattle.ts_base.specs.declared.keys.Key.{Key}
use Rattle.ts_base.specs.declared.names.Name.{Name}
use Rattle.ts_base.specs.declared.names.Prefix.{Prefix}
use Rattle.ts_base.specs.declared.names.Prefix.TheVariants.{Commits, Leases}
use Rattle.ts_base.specs.declared.heads.Head.{Head}
use Rattle.ts_base.specs.declared.heads.Piece.{Piece}
use Rattle.ts_base.specs.Exact.{key_total}
use Rattle.ts_base.specs.Held.{Held}
use Rattle.ts_base.specs.Keys.{key_cmp, key_eq, frag_of}
use Rattle.ts_store.specs.declared.call.Call.{Call}
use Rattle.ts_store.specs.declared.call.Call.TheVariants as call
use Rattle.ts_store.specs.declared.call.Reply.{Reply}
use Rattle.ts_store.specs.declared.call.Reply.TheVariants as reply
use Rattle.ts_store.specs.Calls.{names_under, part_of}
use Rattle.ts_schema.specs.declared.frames.Frame.{Frame}
use Rattle.ts_schema.specs.declared.schemas.Schema.{Schema}
use Rattle.ts_commit.specs.declared.vacs.VacOf.{VacOf}
use Rattle.ts_cond.specs.declared.query.Query.{Query}
use Rattle.ts_model.specs.declared.answers.Refusal.{Refusal}
use Rattle.ts_model.specs.declared.commands.Command.TheVariants.{Read}
use Rattle.ts_model.specs.declared.deeds.Deletion.{Deletion}
use Rattle.ts_model.specs.declared.queries.Ready.{Ready}
use Rattle.ts_model.specs.declared.states.Reading.{Reading}
use Rattle.ts_model.specs.Codecs.{Spelled}
use Rattle.ts_model.specs.Gets.{MostGets}
use Rattle.ts_model.specs.Deeds.{History, IsHistory, deletions, frame_in, current_schema}
use Rattle.ts_model.specs.Queries.{ready_in}
use Rattle.ts_model.specs.States.{counting_in, looked_into, reading_of, vac_of}
use Rattle.ts_model.proofs.HistoryLaws.{framed_by_schema, current_is_with}
use Rattle.ts_model.proofs.KeyLemmas.{key_same, key_itself, key_other}
use Rattle.ts_model.proofs.ListLemmas.{Contains-cons, Contains-here, Contains-nil, Contains-there}
use Rattle.ts_law.specs.Bounds.{ListsOver, FewGets, GetsTwo, GetsFew, heads_in, most_for, pieces_loaded, schema_count}
use Rattle.ts_law.specs.Ends.{AreAllVacs}
use Rattle.ts_law.specs.Stands.{HoldsIn, IsNoLease, Names, Stands}
use Rattle.ts_law.proofs.HeldLemmas.{bytes_there}
use Rattle.ts_law.proofs.ListSteps.{committed_from_looked, counting_held, erase_from_looked}

-- ---- what replies tell

-- a reply agrees with what is held: the names that a listing tells are held, and the bytes that a get tells are those of the object. Nothing is said of leases
pub record Agrees (m : Held) (c : Call) (r : Reply) : Type 0 where
  pub lists : (prefix : Prefix) (names : List Name) → c ≡ call.List prefix → r ≡ reply.Names names → prefix ≢ Leases → names ≡ names_under prefix m
  pub gets : (n : Name) (from len : ℕ) (bytes : List ℕ) → c ≡ call.Get n from len → r ≡ reply.Bytes bytes → IsNoLease n → (whole : List ℕ) × (map.get m n ≡ Some whole) × (bytes ≡ part_of from len whole)

-- ---- keys that count once

-- a key that is below others is none of them
apart_below : (k : Key) (es : List (Key × Key)) → IsTrue (below_all key_cmp k es) → AllByRecursion (λ q. key_eq k q ≡ false) (list_map (λ e. e.0) es)
apart_below k [] below = tt
apart_below k (e ∷ es) below =
    let parts = and_parts (is_lt (key_cmp k e.0)) (below_all key_cmp k es) below in
    (not_tied (key_cmp k e.0) parts.0, apart_below k es parts.1)
  where
    not_tied : (o : Ordering) → is_lt o ≡ true → is_eq o ≡ false
    not_tied ordering.Less less = refl
    not_tied ordering.Equal less = absurd (true≢false (sym less))
    not_tied ordering.Greater less = refl

-- keys that rise stand once each
once_each : (es : List (Key × Key)) → IsTrue (is_sorted key_cmp es) → IsDistinct key_eq (list_map (λ e. e.0) es)
unfolding IsDistinct
once_each [] sorted = tt
once_each (e ∷ es) sorted =
    let parts = and_parts (below_all key_cmp e.0 es) (is_sorted key_cmp es) sorted in
    (apart_below e.0 es parts.0, once_each es parts.1)

-- a key of a list stands in it once as well
counted_once : (ks : List Key) (k : Key) → is_member key_eq ks k ≡ true → is_member key_eq (unique_keys key_eq ks) k ≡ true
counted_once [] k at = at
counted_once (q ∷ ks) k at = by (counted_once ks k) (is_member key_eq ks q) refl (key_eq k q) refl at
  where
    by : (is_member key_eq ks k ≡ true → is_member key_eq (unique_keys key_eq ks) k ≡ true) → (b : Bool) → is_member key_eq ks q ≡ b → (t : Bool) → key_eq k q ≡ t → (t || is_member key_eq ks k) ≡ true
        → is_member key_eq (cond b (unique_keys key_eq ks) (q ∷ unique_keys key_eq ks)) k ≡ true
    by rest true there true tie h = rest (subst (λ x. is_member key_eq ks x ≡ true) (sym (key_same k q tie)) there)
    by rest true there false apart h = rest h
    by rest false none true tie h = ap (λ b. b || is_member key_eq (unique_keys key_eq ks) k) tie
    by rest false none false apart h = ap (λ b. b || is_member key_eq (unique_keys key_eq ks) k) apart ∙ rest h

module _ (there : Key) (heads : List Head) where
  -- the keys that count
  abbrev all_keys : List Key
  all_keys = there ∷ list_map (λ head. head.schema) heads

  -- further schemas that heads name and the schema there are no more than count
  pub schemas_enough : (es : List (Key × Key)) → IsTrue (is_sorted key_cmp es) → ((k : Key) → Contains (list_map (λ e. e.0) es) k → (key_eq k there ≡ false) × Contains all_keys k)
      → suc (length (list_map (λ e. e.0) es)) ≤ schema_count there heads
  schemas_enough es sorted each =
      length-le_from_is_member (eq_by_cmp_equiv key_total) (there ∷ list_map (λ e. e.0) es) (unique_keys key_eq all_keys)
      (IsDistinct-cons key_eq there (list_map (λ e. e.0) es) (apart (list_map (λ e. e.0) es) (λ k at. (each k at).0)) (once_each es sorted))
      (λ k at. counted_once all_keys k (list_any-from_Contains (eq_by_cmp_equiv key_total) k all_keys (among k (Contains-from_any key_same k (there ∷ list_map (λ e. e.0) es) at))))
    where
      apart : (ks : List Key) → ((k : Key) → Contains ks k → key_eq k there ≡ false) → AllByRecursion (λ q. key_eq there q ≡ false) ks
      apart [] none = tt
      apart (k ∷ ks) none =
          (key_other there k (λ same. true≢false (sym (key_itself k) ∙ ap (key_eq k) (sym same) ∙ none k (Contains-here k ks))), apart ks (λ q at. none q (Contains-there k ks q at)))

      among : (k : Key) → Contains (there ∷ list_map (λ e. e.0) es) k → Contains all_keys k
      among k at = elim (Contains-cons there (list_map (λ e. e.0) es) k at) [
        | inl same ↦ subst (Contains all_keys) same (Contains-here there (list_map (λ head. head.schema) heads))
        | inr later ↦ (each k later).1
      ]

  -- the schema there counts
  pub some_schema : 1 ≤ schema_count there heads
  some_schema = let one = schemas_enough [] refl (λ k at. absurd (Contains-nil k at)) in omega (arith, one)

-- ---- what there is

-- where each name has something of a kind, a list of names has a list of these
each_made : {X Y : Type 0} (called : X → Y) (P : X → Type 0) (ys : List Y) → ((y : Y) → Contains ys y → (x : X) × (called x ≡ y) × P x)
    → (xs : List X) × (list_map called xs ≡ ys) × ((x : X) → Contains xs x → P x)
each_made called P [] made = ([], refl, λ x at. absurd (Contains-nil x at))
each_made {X} called P (y ∷ ys) made =
    let first = made y (Contains-here y ys) in
    let rest = each_made called P ys (λ z at. made z (Contains-there y ys z at)) in
    (first.0 ∷ rest.0, ap (λ z. z ∷ list_map called rest.0) first.1 ∙ ap (λ l. y ∷ l) rest.1, λ x at. elim (Contains-cons first.0 rest.0 x at) [ inl same ↦ subst P same first.2 | inr later ↦ rest.2 x later ])

-- a history goes on from the one that objects stand for: what fragments hold of that one they hold of it, and it has the deletes of that one
pub record GoesOn (spelled : Spelled) (sooner h : History) (m : Held) : Type 0 where
  pub stands : Stands spelled m sooner
  pub history : IsHistory h
  pub holds : (f : FragKey) (p : Piece) → HoldsIn spelled sooner m f p → HoldsIn spelled h m f p
  pub erased : (x : Deletion) → Contains (deletions sooner) x → Contains (deletions h) x

-- so does that one itself
abbrev pub goes_on_itself : (spelled : Spelled) (h : History) (m : Held) → Stands spelled m h → GoesOn spelled h h m
goes_on_itself spelled h m stands = record { stands = stands; history = stands.history; holds = λ f p is. is; erased = λ x at. at }

module _ (spelled : Spelled) (most : MostGets) (sooner h : History) (m : Held) (goes : GoesOn spelled sooner h m) (from to : ℕ) (query : Query) where
  -- the pieces in the fragments that a read looks into
  pub pieces_there : (r : Reading) → ListsOver h m from to query r → (pieces : List Piece) × (list_map (λ p. p.head.frag) pieces ≡ r.fragments) × ((p : Piece) → Contains pieces p → HoldsIn spelled h m p.head.frag p)
  pieces_there r asks = each_made (λ p. p.head.frag) (λ p. HoldsIn spelled h m p.head.frag p) r.fragments (λ f at.
      let committed = (committed_from_looked m from to f (subst (λ fs. Contains fs f) asks.fragments_are at)).0 in
      let whole = (goes.stands).whole f committed in
      let named = ((whole.1).spells).named in
      (whole.0, named, subst (λ g. HoldsIn spelled h m g whole.0) (sym named) (goes.holds f whole.0 whole.1)))

  -- the `.vac` objects that count
  vacs_there : (r : Reading) → ListsOver h m from to query r → (vacs : List VacOf) × AreAllVacs m vacs
  vacs_there r asks =
      let made = each_made (λ v. v.frag) (λ v. Names m v.frag v.names) (counting_in (names_under Commits m)) (λ f at.
      let held = counting_held m f at in
      let bytes = bytes_there m (vac_of f) held.1 in
      let reads = (((goes.stands).merged).reads f bytes.0 held.0 bytes.1).1 in
      (record { frag = f; names = reads.0 }, refl, record { bytes = bytes.0; held = bytes.1; reads = reads.1 })) in
      (made.0, record { frags = made.1; each = made.2 })

  -- the deletes in the interval
  deletes_there : (r : Reading) → ListsOver h m from to query r → (erased : List Deletion) × (list_map (λ e. frag_of e.key) erased ≡ r.delete_names) × ((e : Deletion) → Contains erased e → Contains (deletions h) e)
  deletes_there r asks = each_made (λ e. frag_of e.key) (Contains (deletions h)) r.delete_names (λ f at.
      let of = erase_from_looked spelled m sooner goes.stands from to f (subst (λ fs. Contains fs f) asks.deletes_are at) in
      (of.0, of.2, goes.erased of.0 of.1))

  -- what a read that asks so knows in the end
  abbrev in_the_end : Reading → List VacOf → List Deletion → Reading
  in_the_end r vacs erased = record { from = r.from; to = r.to; ready = r.ready; frame = r.frame; current = r.current; fragments = r.fragments; counting = r.counting; vacs = vacs; clipped = r.clipped; delete_names = r.delete_names; deletions = erased }

  -- so many gets are few: those that need no fetch, where the schemas are those that pieces name
  pub few_listed : (r : Reading) → ListsOver h m from to query r → (pieces : List Piece) → list_map (λ p. p.head.frag) pieces ≡ r.fragments → ((p : Piece) → Contains pieces p → HoldsIn spelled h m p.head.frag p)
      → (count : ℕ) → count ≤ 1 + schema_count r.current.key (heads_in pieces) + length r.counting + length r.delete_names + length r.fragments → FewGets spelled most h m from to query count
  few_listed r asks pieces frags each count few =
      let vacs = vacs_there r asks in
      let erased = deletes_there r asks in
      let whole = in_the_end r vacs.0 erased.0 in
      GetsFew whole pieces
      (record {
        asks = record { begins = asks.begins; ends = asks.ends; framed = asks.framed; holds = asks.holds; is_ready = asks.is_ready; fragments_are = asks.fragments_are; counting_are = asks.counting_are; deletes_are = asks.deletes_are };
        frags = frags;
        each = each;
        vacs = vacs.1;
        deletes = erased.1;
        deeds = erased.2;
      })
      (let fetched : ℕ = sum_by (most_for most h whole) (pieces_loaded whole pieces) in omega (arith, few))

  -- so few are those of a read that knows no fragment's head yet
  pub few_early : (r : Reading) → ListsOver h m from to query r → (count : ℕ) → count ≤ 2 + length r.counting + length r.fragments → FewGets spelled most h m from to query count
  few_early r asks count few =
      let there = pieces_there r asks in
      let some = some_schema r.current.key (heads_in there.0) in
      few_listed r asks there.0 there.1 there.2 count (omega (arith, few, some))

  -- what a read asks for that has the schema there and the frame
  pub asks_there : (frame : Frame) (there : Schema) (ready : Ready) → frame_in h ≡ Some frame → current_schema h to ≡ Some there → ready_in frame there.attrs query ≡ Ok ready
      → ListsOver h m from to query (reading_of from to (looked_into (Read from to query) (names_under Commits m)) frame there ready)
  asks_there frame there ready framed holds is = record { begins = refl; ends = refl; framed = framed; holds = holds; is_ready = is; fragments_are = refl; counting_are = refl; deletes_are = refl }

  -- two gets are few where a schema is there
  pub few_first : (there : Schema) → current_schema h to ≡ Some there → (count : ℕ) → count ≤ 2 → FewGets spelled most h m from to query count
  few_first there holds count few =
      let framed = framed_by_schema h there.key there goes.history (current_is_with h to there goes.history holds) in
      by framed.0 framed.1 (ready_in framed.0 there.attrs query) refl
    where
      by : (frame : Frame) → frame_in h ≡ Some frame → (o : Result Ready Refusal) → ready_in frame there.attrs query ≡ o → FewGets spelled most h m from to query count
      by frame framed (Err r) is = GetsTwo frame there r framed holds is few
      by frame framed (Ok ready) is = few_early (reading_of from to (looked_into (Read from to query) (names_under Commits m)) frame there ready) (asks_there frame there ready framed holds is) count (omega (arith, few))
