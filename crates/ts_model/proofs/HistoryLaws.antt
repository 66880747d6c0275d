-- Histories that grow: keys stay apart, what may follow makes a history again, and what a history says of its frame and its schemas.
use Rattle.std.proofs.Common.{List, None, Option, Some, [], ap, append_assoc, inl, inr, refl, subst, sym, true, ℕ, ◌++◌, ◌∙◌, ◌∷◌, ◌≡◌, ◌⊎◌}
use Rattle.std.proofs.Common.{nat_eq, nat_le}
use Rattle.std.proofs.lemmas.Bool.{both_ways, eq-eqb, eqb-true, false_from_ne_true, not-true, not_from_false}
use Rattle.std.proofs.lemmas.Cmp.{eq_by_cmp_equiv}
use Rattle.std.proofs.lemmas.List.{append-nil}
use Rattle.std.proofs.lemmas.List.Elements.{Contains-append_left, Contains-append_right, filter_map-append}
use Rattle.std.proofs.lemmas.List.Folds.{Any-from_list_any}
use Rattle.std.proofs.lemmas.Map.Views.{list_any-from_Contains}
use Rattle.std.proofs.lemmas.Option.{none-some, same_Some}
use Rattle.std.specs.List.{cons_option}
use Rattle.std.specs.Prelude.{Contains, filter, filter_map, find, option_map, slice_get}
use Rattle.ts_base.specs.Exact.{key_total}
use Rattle.ts_base.specs.Keys.{frag_eq, frag_of, key_eq, key_lt}
use Rattle.ts_base.specs.declared.keys.FragKey.{FragKey}
use Rattle.ts_base.specs.declared.keys.Key.{Key}
use Rattle.ts_cond.specs.CondTexts.{IsCond}
use Rattle.ts_model.proofs.KeyLemmas.{IsGreatest, frag_itself, frag_same, greatest-None, greatest-Some, key_itself, key_of_frag, key_same, same_from_both}
use Rattle.ts_model.proofs.ListLemmas.{Contains-cons, Contains-filter, Contains-filter_map, Contains-here, Contains-nil, Contains-slice_get, filter-Contains, find-Some, find-append, find_member, or_else, slice_get-Contains}
use Rattle.ts_model.specs.Deeds.{DeletionFollows, Follow, History, IsHistory, IsKey, IsNewKey, MayFollow, SchemaFollows, WriteFollows, deletion_in, deletion_of, deletions, frame_in, has_key, key_in, keys, schema_in, current_schema, schema_with, schemas, write_in, writes}
use Rattle.ts_model.specs.Jobs.{AreApart, job_with}
use Rattle.ts_model.specs.declared.commands.Job.{Job}
use Rattle.ts_model.specs.declared.deeds.Deed.{Deed}
use Rattle.ts_model.specs.declared.deeds.Deed.TheVariants.{Declared, Erased, Framed, Wrote}
use Rattle.ts_model.specs.declared.deeds.Deletion.{Deletion}
use Rattle.ts_model.specs.declared.deeds.Written.{Written}
use Rattle.ts_schema.specs.Evolutions.{schema_at}
use Rattle.ts_schema.specs.FrameTexts.{IsFrame}
use Rattle.ts_schema.specs.SchemaTexts.{AreAttrs}
use Rattle.ts_schema.specs.declared.frames.Frame.{Frame}
use Rattle.ts_schema.specs.declared.schemas.Schema.{Schema}

-- ---- new keys

-- a key that no deed has is new
pub new_from_absent : (h : History) (k : Key) → (Contains (keys h) k → ⊥) → IsNewKey h k
new_from_absent h k absent = not_from_false (has_key h k) (false_from_ne_true (has_key h k) (λ e.
    let some = Any-from_list_any (key_eq k) (keys h) e in
    absent (subst (λ l. Contains (keys h) l) (sym (key_same k some.1 some.4)) (some.0, some.2, some.3))))

-- no deed has a new key
pub absent_from_new : (h : History) (k : Key) → IsNewKey h k → Contains (keys h) k → ⊥
absent_from_new h k new at = both_ways (has_key h k) (not-true (has_key h k) new) (list_any-from_Contains (eq_by_cmp_equiv key_total) k (keys h) at)

-- the keys of two histories, one after the other
pub keys-append : (h g : History) → keys (h ++ g) ≡ keys h ++ keys g
keys-append h g = filter_map-append key_in h g

-- the writes of two histories, one after the other
pub writes-append : (h g : History) → writes (h ++ g) ≡ writes h ++ writes g
writes-append h g = filter_map-append write_in h g

-- the schemas of two histories, one after the other
pub schemas-append : (h g : History) → schemas (h ++ g) ≡ schemas h ++ schemas g
schemas-append h g = filter_map-append schema_in h g

-- the deletes of two histories, one after the other
pub deletions-append : (h g : History) → deletions (h ++ g) ≡ deletions h ++ deletions g
deletions-append h g = filter_map-append deletion_in h g

-- a key that is new to more deeds is new to fewer
pub new_to_fewer : (h g : History) (k : Key) → IsNewKey (h ++ g) k → IsNewKey h k
new_to_fewer h g k new = new_from_absent h k (λ at. absent_from_new (h ++ g) k new (rw keys-append (Contains-append_left (keys h) (keys g) k at)))

-- a deed that may follow has a new key
may_new : (before : History) (d : Deed) (k : Key) → MayFollow before d → key_in d ≡ Some k → IsNewKey before k
may_new before (Framed frame) k may is = absurd (none-some k is)
may_new before (Declared s) k may is = rw (← same_Some s.key k is) may.new
may_new before (Wrote w) k may is = rw (← same_Some w.key k is) may.new
may_new before (Erased e) k may is = rw (← same_Some e.key k is) may.new

-- ---- what deeds of one kind carry

-- a write has the key of its deed
write_keyed : (d : Deed) (w : Written) → write_in d ≡ Some w → key_in d ≡ Some w.key
write_keyed (Framed frame) w e = absurd (none-some w e)
write_keyed (Declared s) w e = absurd (none-some w e)
write_keyed (Wrote v) w e = ap (λ u. Some u.key) (same_Some v w e)
write_keyed (Erased x) w e = absurd (none-some w e)

-- a schema has the key of its deed
schema_keyed : (d : Deed) (s : Schema) → schema_in d ≡ Some s → key_in d ≡ Some s.key
schema_keyed (Framed frame) s e = absurd (none-some s e)
schema_keyed (Declared t) s e = ap (λ u. Some u.key) (same_Some t s e)
schema_keyed (Wrote w) s e = absurd (none-some s e)
schema_keyed (Erased x) s e = absurd (none-some s e)

-- a delete has the key of its deed
deletion_keyed : (d : Deed) (x : Deletion) → deletion_in d ≡ Some x → key_in d ≡ Some x.key
deletion_keyed (Framed frame) x e = absurd (none-some x e)
deletion_keyed (Declared s) x e = absurd (none-some x e)
deletion_keyed (Wrote w) x e = absurd (none-some x e)
deletion_keyed (Erased y) x e = ap (λ u. Some u.key) (same_Some y x e)

-- a member is what may come first, or one of the rest
cons_option-cases : {X : Type 0} (o : Option X) (xs : List X) (x : X) → Contains (cons_option o xs) x → (o ≡ Some x) ⊎ Contains xs x
cons_option-cases None xs x at = inr at
cons_option-cases (Some y) xs x at = elim (Contains-cons y xs x at) [ inl same ↦ inl (ap Some same) | inr later ↦ inr later ]

module _ {A : Type 0} (of : Deed → Option A) (key : A → Key) (keyed : (d : Deed) (a : A) → of d ≡ Some a → key_in d ≡ Some (key a)) where
  -- the key of each that follows is new
  new_after : (before ds : History) (a : A) → Follow before ds → Contains (filter_map of ds) a → IsNewKey before (key a)
  new_after before [] a follow at = absurd (Contains-nil a at)
  new_after before (d ∷ ds) a follow at = elim (cons_option-cases (of d) (filter_map of ds) a at) [
    | inl first ↦ may_new before d (key a) follow.0 (keyed d a first)
    | inr later ↦ new_to_fewer before (d ∷ []) (key a) (new_after (before ++ d ∷ []) ds a follow.1 later)
  ]

  -- what comes later has another key
  apart_from : (before ds : History) (d : Deed) (a b : A) → Follow (before ++ d ∷ []) ds → of d ≡ Some a → Contains (filter_map of ds) b → key a ≡ key b → ⊥
  apart_from before ds d a b follow is at same =
      absent_from_new (before ++ d ∷ []) (key b) (new_after (before ++ d ∷ []) ds b follow at)
      (rw keys-append (Contains-append_right (keys before) (keys (d ∷ [])) (key b)
      (rw (← same) (Contains-filter_map key_in (d ∷ []) d (key a) (Contains-here d []) (keyed d a is)))))

  -- of those that follow, one has a key
  one_of : (before ds : History) (a b : A) → Follow before ds → Contains (filter_map of ds) a → Contains (filter_map of ds) b → key a ≡ key b → a ≡ b
  one_of before [] a b follow at too same = absurd (Contains-nil a at)
  one_of before (d ∷ ds) a b follow at too same = elim (cons_option-cases (of d) (filter_map of ds) a at) [
    | inl first ↦ elim (cons_option-cases (of d) (filter_map of ds) b too) [
      | inl second ↦ same_Some a b (sym first ∙ second)
      | inr later ↦ absurd (apart_from before ds d a b follow.1 first later same)
    ]
    | inr later ↦ elim (cons_option-cases (of d) (filter_map of ds) b too) [
      | inl second ↦ absurd (apart_from before ds d b a follow.1 second later (sym same))
      | inr both ↦ one_of (before ++ d ∷ []) ds a b follow.1 later both same
    ]
  ]

  -- where the deed stands, and what it follows
  placed : (before ds : History) (a : A) → Follow before ds → Contains (filter_map of ds) a
      → (front : History) × (d : Deed) × (rest : History) × (ds ≡ front ++ d ∷ rest) × (of d ≡ Some a) × MayFollow (before ++ front) d
  placed before [] a follow at = absurd (Contains-nil a at)
  placed before (d ∷ ds) a follow at = elim (cons_option-cases (of d) (filter_map of ds) a at) [
    | inl first ↦ ([], d, ds, refl, first, subst (λ b. MayFollow b d) (sym (append-nil before)) follow.0)
    | inr later ↦
        let on = placed (before ++ d ∷ []) ds a follow.1 later in
        (d ∷ on.0, on.1, on.2, ap (λ l. d ∷ l) on.3, on.4, subst (λ b. MayFollow b on.1) (append_assoc before (d ∷ []) on.0) on.5)
  ]

-- a history has one write of a key
pub one_write : (h : History) (w v : Written) → IsHistory h → Contains (writes h) w → Contains (writes h) v → w.key ≡ v.key → w ≡ v
one_write h w v is at too same = one_of write_in (λ w. w.key) write_keyed [] h w v is at too same

-- a history has one schema of a key
pub one_schema : (h : History) (s t : Schema) → IsHistory h → Contains (schemas h) s → Contains (schemas h) t → s.key ≡ t.key → s ≡ t
one_schema h s t is at too same = one_of schema_in (λ s. s.key) schema_keyed [] h s t is at too same

-- a history has one delete of a key
pub one_deletion : (h : History) (x y : Deletion) → IsHistory h → Contains (deletions h) x → Contains (deletions h) y → x.key ≡ y.key → x ≡ y
one_deletion h x y is at too same = one_of deletion_in (λ x. x.key) deletion_keyed [] h x y is at too same

-- ---- fronts and pushes

-- the front of deeds that follow is such
Follow-front : (before a b : History) → Follow before (a ++ b) → Follow before a
Follow-front before [] b follow = tt
Follow-front before (d ∷ a) b follow = (follow.0, Follow-front (before ++ d ∷ []) a b follow.1)

-- the front of a history is one
pub IsHistory-front : (a b : History) → IsHistory (a ++ b) → IsHistory a
IsHistory-front a b is = Follow-front [] a b is

-- a deed may come after deeds that follow
Follow-push : (before ds : History) (d : Deed) → Follow before ds → MayFollow (before ++ ds) d → Follow before (ds ++ d ∷ [])
Follow-push before [] d follow may = (subst (λ b. MayFollow b d) (append-nil before) may, tt)
Follow-push before (e ∷ ds) d follow may = (follow.0, Follow-push (before ++ e ∷ []) ds d follow.1 (rw append_assoc may))

-- a deed that may follow a history makes a history of it again
pub IsHistory-push : (h : History) (d : Deed) → IsHistory h → MayFollow h d → IsHistory (h ++ d ∷ [])
IsHistory-push h d is may = Follow-push [] h d is may

-- ---- frames

-- where there is no deed, there is no frame
no_first : {A : Type 0} (frame : Frame) → frame_in [] ≡ Some frame → A
no_first frame e = absurd (none-some frame e)

-- a history that has no frame has no deed
pub no_deeds : (h : History) → IsHistory h → frame_in h ≡ None → h ≡ []
no_deeds [] is none = refl
no_deeds (Framed frame ∷ h) is none = absurd (none-some frame (sym none))
no_deeds (Declared s ∷ h) is none = no_first ((is.0).frame) ((is.0).framed)
no_deeds (Wrote w ∷ h) is none = no_first ((is.0).frame) ((is.0).framed)
no_deeds (Erased e ∷ h) is none = no_first ((is.0).frame) ((is.0).framed)

-- the frame of a history is one that an array can have
pub frame_facts : (h : History) (frame : Frame) → IsHistory h → frame_in h ≡ Some frame → IsFrame frame
frame_facts [] frame is framed = no_first frame framed
frame_facts (Framed own ∷ h) frame is framed = rw (← same_Some own frame framed) ((is.0).is_frame)
frame_facts (Declared s ∷ h) frame is framed = no_first ((is.0).frame) ((is.0).framed)
frame_facts (Wrote w ∷ h) frame is framed = no_first ((is.0).frame) ((is.0).framed)
frame_facts (Erased e ∷ h) frame is framed = no_first ((is.0).frame) ((is.0).framed)

-- a history that has a deed has a frame
pub framed_by_deed : (d : Deed) (h : History) → IsHistory (d ∷ h) → (frame : Frame) × (frame_in (d ∷ h) ≡ Some frame)
framed_by_deed (Framed frame) h is = (frame, refl)
framed_by_deed (Declared s) h is = no_first ((is.0).frame) ((is.0).framed)
framed_by_deed (Wrote w) h is = no_first ((is.0).frame) ((is.0).framed)
framed_by_deed (Erased e) h is = no_first ((is.0).frame) ((is.0).framed)

-- a history that has a schema has a frame
pub framed_by_schema : (h : History) (k : Key) (s : Schema) → IsHistory h → schema_with h k ≡ Some s → (frame : Frame) × (frame_in h ≡ Some frame)
framed_by_schema [] k s is with = absurd (none-some s with)
framed_by_schema (d ∷ h) k s is with = framed_by_deed d h is

-- the frame of a history stays
pub frame_in-append : (h g : History) (frame : Frame) → frame_in h ≡ Some frame → frame_in (h ++ g) ≡ Some frame
frame_in-append [] g frame is = no_first frame is
frame_in-append (Framed own ∷ h) g frame is = is
frame_in-append (Declared s ∷ h) g frame is = frame_in-append h g frame is
frame_in-append (Wrote w ∷ h) g frame is = frame_in-append h g frame is
frame_in-append (Erased e ∷ h) g frame is = frame_in-append h g frame is

-- ---- schemas

-- the schema of a key is a deed, and has the key
pub schema_with-is : (h : History) (k : Key) (s : Schema) → schema_with h k ≡ Some s → Contains (schemas h) s × (s.key ≡ k)
schema_with-is h k s with =
    let found = find-Some (λ t. key_eq t.key k) (schemas h) s with in
    (found.0, key_same s.key k found.1)

-- each schema of a history is the one of its key
pub schema_of_key : (h : History) (s : Schema) → IsHistory h → Contains (schemas h) s → schema_with h s.key ≡ Some s
schema_of_key h s is at =
    let found = find_member (λ t. key_eq t.key s.key) (schemas h) s at (key_itself s.key) in
    let member = schema_with-is h s.key found.0 found.1 in
    found.1 ∙ ap Some (one_schema h found.0 s is member.0 at member.1)

-- the schema of a key stays
pub schema_with-append : (h g : History) (k : Key) (s : Schema) → schema_with h k ≡ Some s → schema_with (h ++ g) k ≡ Some s
schema_with-append h g k s with =
    ap (find (λ t. key_eq t.key k)) (schemas-append h g) ∙ find-append (λ t. key_eq t.key k) (schemas h) (schemas g)
    ∙ ap (λ o. or_else o (find (λ t. key_eq t.key k) (schemas g))) with

-- the schema that holds at a timestamp is a deed, stamped there or before
pub current_schema-is : (h : History) (b : ℕ) (s : Schema) → current_schema h b ≡ Some s → Contains (schemas h) s × (nat_le s.key.t b ≡ true)
current_schema-is h b s there =
    filter-Contains (λ t. nat_le t.key.t b) (schemas h) s (greatest-Some (λ t. t.key) (filter (λ t. nat_le t.key.t b) (schemas h)) s there).member

-- the schema that holds at a timestamp is the one of its key
pub current_is_with : (h : History) (b : ℕ) (s : Schema) → IsHistory h → current_schema h b ≡ Some s → schema_with h s.key ≡ Some s
current_is_with h b s is there = schema_of_key h s is (current_schema-is h b s there).0

-- the schema was declared after these deeds
pub schema_follows : (h : History) (s : Schema) → IsHistory h → Contains (schemas h) s → (before : History) × (rest : History) × (h ≡ before ++ Declared s ∷ rest) × SchemaFollows before s
schema_follows h s is at = let on = placed schema_in (λ s. s.key) schema_keyed [] h s is at in from_deed on.0 on.1 on.2 on.3 on.4 on.5
  where
    from_deed : (front : History) (d : Deed) (rest : History) → h ≡ front ++ d ∷ rest → schema_in d ≡ Some s → MayFollow front d
        → (before : History) × (rest : History) × (h ≡ before ++ Declared s ∷ rest) × SchemaFollows before s
    from_deed front (Framed frame) rest parts is_it may = absurd (none-some s is_it)
    from_deed front (Declared t) rest parts is_it may =
        let same = same_Some t s is_it in
        (front, rest, parts ∙ ap (λ u. front ++ Declared u ∷ rest) same, subst (SchemaFollows front) same may)
    from_deed front (Wrote w) rest parts is_it may = absurd (none-some s is_it)
    from_deed front (Erased e) rest parts is_it may = absurd (none-some s is_it)

-- the write was committed after these deeds
pub write_follows : (h : History) (w : Written) → IsHistory h → Contains (writes h) w → (before : History) × (rest : History) × (h ≡ before ++ Wrote w ∷ rest) × WriteFollows before w
write_follows h w is at = let on = placed write_in (λ w. w.key) write_keyed [] h w is at in from_deed on.0 on.1 on.2 on.3 on.4 on.5
  where
    from_deed : (front : History) (d : Deed) (rest : History) → h ≡ front ++ d ∷ rest → write_in d ≡ Some w → MayFollow front d
        → (before : History) × (rest : History) × (h ≡ before ++ Wrote w ∷ rest) × WriteFollows before w
    from_deed front (Framed frame) rest parts is_it may = absurd (none-some w is_it)
    from_deed front (Declared t) rest parts is_it may = absurd (none-some w is_it)
    from_deed front (Wrote v) rest parts is_it may =
        let same = same_Some v w is_it in
        (front, rest, parts ∙ ap (λ u. front ++ Wrote u ∷ rest) same, subst (WriteFollows front) same may)
    from_deed front (Erased e) rest parts is_it may = absurd (none-some w is_it)

-- the attributes of a schema are such as an array can have, and its key has its widths
pub schema_facts : (h : History) (k : Key) (s : Schema) → IsHistory h → schema_with h k ≡ Some s → AreAttrs s.attrs × IsKey s.key
schema_facts h k s is with =
    let follows = (schema_follows h s is (schema_with-is h k s with).0).3 in
    (follows.attrs, follows.key)

-- ---- deletes

-- the delete under a name is a deed, and has the name
pub deletion_of-is : (h : History) (f : FragKey) (x : Deletion) → deletion_of h f ≡ Some x → Contains (deletions h) x × (frag_of x.key ≡ f)
deletion_of-is h f x is =
    let found = find-Some (λ y. frag_eq (frag_of y.key) f) (deletions h) x is in
    (found.0, frag_same (frag_of x.key) f found.1)

-- each delete of a history is the one under its name
pub deletion_of_name : (h : History) (x : Deletion) → IsHistory h → Contains (deletions h) x → deletion_of h (frag_of x.key) ≡ Some x
deletion_of_name h x is at =
    let found = find_member (λ y. frag_eq (frag_of y.key) (frag_of x.key)) (deletions h) x at (frag_itself (frag_of x.key)) in
    let member = deletion_of-is h (frag_of x.key) found.0 found.1 in
    found.1 ∙ ap Some (one_deletion h found.0 x is member.0 at (key_of_frag (found.0).key x.key member.1))

-- the delete was committed after these deeds
pub deletion_follows : (h : History) (x : Deletion) → IsHistory h → Contains (deletions h) x → (before : History) × (rest : History) × (h ≡ before ++ Erased x ∷ rest) × DeletionFollows before x
deletion_follows h x is at = let on = placed deletion_in (λ x. x.key) deletion_keyed [] h x is at in from_deed on.0 on.1 on.2 on.3 on.4 on.5
  where
    from_deed : (front : History) (d : Deed) (rest : History) → h ≡ front ++ d ∷ rest → deletion_in d ≡ Some x → MayFollow front d
        → (before : History) × (rest : History) × (h ≡ before ++ Erased x ∷ rest) × DeletionFollows before x
    from_deed front (Framed frame) rest parts is_it may = absurd (none-some x is_it)
    from_deed front (Declared t) rest parts is_it may = absurd (none-some x is_it)
    from_deed front (Wrote w) rest parts is_it may = absurd (none-some x is_it)
    from_deed front (Erased y) rest parts is_it may =
        let same = same_Some y x is_it in
        (front, rest, parts ∙ ap (λ u. front ++ Erased u ∷ rest) same, subst (DeletionFollows front) same may)

-- the condition of a delete has an object, and its key has its widths
pub deletion_facts : (h : History) (x : Deletion) → IsHistory h → Contains (deletions h) x → IsCond x.cond × IsKey x.key
deletion_facts h x is at = let follows = (deletion_follows h x is at).3 in (follows.cond, follows.key)

-- ---- the schema there, by keys alone

-- an item with the greatest key, by the keys alone
greatest_by_keys : (h : History) (found : List Key) (b : ℕ) → ((k : Key) → Contains found k → (s : Schema) × Contains (schemas h) s × (s.key ≡ k))
    → ((s : Schema) → Contains (schemas h) s → Contains found s.key) → (s : Schema) → current_schema h b ≡ Some s → schema_at found b ≡ Some s.key
greatest_by_keys h found b of_schemas of_keys s there = from_answer (schema_at found b) refl
  where
    top : IsGreatest (λ t. t.key) (filter (λ t. nat_le t.key.t b) (schemas h)) s
    top = greatest-Some (λ t. t.key) (filter (λ t. nat_le t.key.t b) (schemas h)) s there

    here : Contains (schemas h) s × (nat_le s.key.t b ≡ true)
    here = current_schema-is h b s there

    own : Contains (filter (λ k. nat_le k.t b) found) s.key
    own = Contains-filter (λ k. nat_le k.t b) found s.key (of_keys s here.0) here.1

    from_answer : (o : Option Key) → schema_at found b ≡ o → o ≡ Some s.key
    from_answer None none = absurd (Contains-nil s.key (subst (λ l. Contains l s.key) (greatest-None (λ k. k) (filter (λ k. nat_le k.t b) found) none) own))
    from_answer (Some k) some =
        let best = greatest-Some (λ k. k) (filter (λ k. nat_le k.t b) found) k some in
        let member = filter-Contains (λ k. nat_le k.t b) found k best.member in
        let with = of_schemas k member.0 in
        let its = Contains-filter (λ t. nat_le t.key.t b) (schemas h) with.0 with.1 (ap (λ k. nat_le k.t b) with.2 ∙ member.1) in
        ap Some (same_from_both k s.key (best.top s.key own) (ap (key_lt s.key) (sym with.2) ∙ top.top with.0 its))

-- the key of the schema there, among keys that are those of the schemas
pub there_by_keys : (h : History) (found : List Key) (b : ℕ) → ((k : Key) → Contains found k → (s : Schema) × Contains (schemas h) s × (s.key ≡ k))
    → ((s : Schema) → Contains (schemas h) s → Contains found s.key) → schema_at found b ≡ option_map (λ s. s.key) (current_schema h b)
there_by_keys h found b of_schemas of_keys = from_there (current_schema h b) refl
  where
    from_there : (o : Option Schema) → current_schema h b ≡ o → schema_at found b ≡ option_map (λ s. s.key) o
    from_there (Some s) there = greatest_by_keys h found b of_schemas of_keys s there
    from_there None none = from_answer (schema_at found b) refl
      where
        from_answer : (o : Option Key) → schema_at found b ≡ o → o ≡ None
        from_answer None is = refl
        from_answer (Some k) is =
            let best = greatest-Some (λ k. k) (filter (λ k. nat_le k.t b) found) k is in
            let member = filter-Contains (λ k. nat_le k.t b) found k best.member in
            let with = of_schemas k member.0 in
            let its = Contains-filter (λ t. nat_le t.key.t b) (schemas h) with.0 with.1 (ap (λ k. nat_le k.t b) with.2 ∙ member.1) in
            absurd (Contains-nil with.0 (subst (λ l. Contains l with.0) (greatest-None (λ t. t.key) (filter (λ t. nat_le t.key.t b) (schemas h)) none) its))

-- ---- the jobs behind the deeds

-- the job of an identifier is the one that has it
pub job_of_id : (jobs : List Job) (number : ℕ) (job : Job) → AreApart jobs → slice_get jobs number ≡ Some job → job_with jobs job.id ≡ Some job
job_of_id jobs number job apart at =
    let found = find_member (λ j. nat_eq j.id job.id) jobs job (Contains-slice_get jobs number job at) (eq-eqb job.id job.id refl) in
    let is = find-Some (λ j. nat_eq j.id job.id) jobs found.0 found.1 in
    let place = slice_get-Contains jobs found.0 is.0 in
    let same_place = apart place.0 number found.0 job place.1 at (eqb-true (found.0).id job.id is.1) in
    found.1 ∙ sym place.1 ∙ ap (slice_get jobs) same_place ∙ at
