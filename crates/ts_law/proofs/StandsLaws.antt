-- What each put does to what is held: it leaves the rest alone, and the objects go on standing for the history.
use Rattle.std.proofs.Common.{◌≡◌, ℕ, ℤ, true, false, cond, ◌⊎◌, inl, inr, List, [], ◌∷◌, ◌++◌, Option, Some, None, find, refl, sym, ◌∙◌, ap, subst, arith}
use Rattle.std.specs.Prelude.{Contains, option_map}
use Rattle.std.specs.Ordering.{eq_by_cmp}
use Rattle.std.specs.Option.{is_some}
use Rattle.std.specs.FinMap as map
use Rattle.std.proofs.lemmas.Bool.{true≢false}
use Rattle.std.proofs.lemmas.Option.{same_Some, none-some}
use Rattle.std.proofs.lemmas.List.{append-nil}
use Rattle.std.proofs.lemmas.List.Elements.{filter_map-append, Contains-append_right, Contains-append_cases}
use Rattle.ts_base.specs.declared.keys.Key.{Key}
use Rattle.ts_base.specs.declared.keys.FragKey.{FragKey}
use Rattle.ts_base.specs.declared.names.Name.{Name}
use Rattle.ts_base.specs.declared.names.Name.TheVariants as name
use Rattle.ts_base.specs.declared.names.Part.{Part}
use Rattle.ts_base.specs.declared.heads.Piece.{Piece}
use Rattle.ts_base.specs.declared.names.CommitKind.TheVariants.{Del}
use Rattle.ts_base.specs.Keys.{key_eq, frag_eq, frag_of}
use Rattle.ts_base.specs.Names.{name_cmp, wrt_of, del_of}
use Rattle.ts_base.specs.Held.{Held}
use Rattle.ts_base.specs.Exact.{name_total, name_exact}
use Rattle.ts_schema.specs.declared.frames.Frame.{Frame}
use Rattle.ts_schema.specs.declared.schemas.Schema.{Schema}
use Rattle.ts_schema.specs.FrameTexts.{frame_object, IsFrame}
use Rattle.ts_schema.specs.SchemaTexts.{schema_object}
use Rattle.ts_schema.specs.Parts.{IsShort}
use Rattle.ts_domain.specs.Boxes.{is_in_box}
use Rattle.ts_cond.specs.CondTexts.{cond_object}
use Rattle.ts_model.specs.declared.deeds.Written.{Written}
use Rattle.ts_model.specs.declared.deeds.Deletion.{Deletion}
use Rattle.ts_model.specs.declared.deeds.Deed.TheVariants.{Framed, Declared, Wrote, Erased}
use Rattle.ts_model.specs.Deeds.{History, schema_in, deletion_in, frame_in, schemas, writes, deletions, keys, schema_with, deletion_of, has_cell, SchemaFollows, WriteFollows, DeletionFollows, IsNewKey, IsHistory}
use Rattle.ts_model.specs.Pieces.{HoldsWrite}
use Rattle.ts_model.specs.Codecs.{Spelled}
use Rattle.ts_law.specs.Origins.{box_in}
use Rattle.ts_model.specs.States.{vac_of}
use Rattle.ts_commit.specs.Vacs.{AreNames}
use Rattle.ts_law.specs.Stands.{AreMerged, IsNamed, Names, Within, IsCommitted, IsReached, Spells, HoldsIn, Stands}
use Rattle.ts_law.specs.Fresh.{id_in}
use Rattle.ts_law.specs.Steps.{Keeps, Leads}
use Rattle.ts_model.specs.declared.commands.Job.{Job}
use Rattle.ts_model.specs.Told.{Told, after_told, history_told}
use Rattle.ts_model.proofs.ListLemmas.{Contains-nil, Contains-here, Contains-only, or_else, find-append}
use Rattle.ts_model.proofs.KeyLemmas.{frag_itself, frag_same, key_itself, key_same, same_from_tie}
use Rattle.ts_model.proofs.HistoryLaws.{writes-append, frame_in-append, schema_with-append, IsHistory-push, no_deeds}
use Rattle.ts_law.proofs.HeldLemmas.{Holds, Holds-from_get, get_put, get_apart, held_before, stays_held, holds_stays}
use Rattle.ts_law.proofs.VacLaws.{MarksNone, merged_grows, named_before, IsBare, joined_names, merged_joins}
use Rattle.ts_law.proofs.Grows.{PartsStay, holds_on_in, holds_in_grows, ordinary_holds, origin_is, within_on}

-- ---- histories that grow

-- what is no frame adds none
frame_in-unframed : (h g : History) → frame_in g ≡ None → frame_in (h ++ g) ≡ frame_in h
frame_in-unframed [] g none = none
frame_in-unframed (Framed f ∷ h) g none = refl
frame_in-unframed (Declared s ∷ h) g none = frame_in-unframed h g none
frame_in-unframed (Wrote w ∷ h) g none = frame_in-unframed h g none
frame_in-unframed (Erased x ∷ h) g none = frame_in-unframed h g none

-- nothing else is found where nothing comes behind
or_none : {A : Type 0} (o : Option A) → or_else o None ≡ o
or_none None = refl
or_none (Some x) = refl

-- a schema is looked for among earlier deeds first
schema_with-or : (h g : History) (k : Key) → schema_with (h ++ g) k ≡ or_else (schema_with h k) (schema_with g k)
schema_with-or h g k = ap (find (λ s. key_eq s.key k)) (filter_map-append schema_in h g) ∙ find-append (λ s. key_eq s.key k) (schemas h) (schemas g)

-- deeds that declare nothing add no schema
schema_with-undeclared : (h g : History) (k : Key) → schemas g ≡ [] → schema_with (h ++ g) k ≡ schema_with h k
schema_with-undeclared h g k none = ap (find (λ s. key_eq s.key k)) (filter_map-append schema_in h g ∙ ap (λ ss. schemas h ++ ss) none ∙ append-nil (schemas h))

-- a delete is looked for among earlier deeds first
deletion_of-or : (h g : History) (f : FragKey) → deletion_of (h ++ g) f ≡ or_else (deletion_of h f) (deletion_of g f)
deletion_of-or h g f = ap (find (λ x. frag_eq (frag_of x.key) f)) (filter_map-append deletion_in h g) ∙ find-append (λ x. frag_eq (frag_of x.key) f) (deletions h) (deletions g)

-- deeds that erase nothing add no delete
deletion_of-unerased : (h g : History) (f : FragKey) → deletions g ≡ [] → deletion_of (h ++ g) f ≡ deletion_of h f
deletion_of-unerased h g f none = ap (find (λ x. frag_eq (frag_of x.key) f)) (filter_map-append deletion_in h g ∙ ap (λ xs. deletions h ++ xs) none ∙ append-nil (deletions h))

-- ---- what is held after a put

-- what is not held has no bytes
pub get_free : (m : Held) (n : Name) → (Holds m n → ⊥) → map.get m n ≡ None
get_free m n free = elim (map.get m n) as (λ o. map.get m n ≡ o → o ≡ None) [
  | None ↦ λ _. refl
  | Some bytes ↦ λ e. absurd (free (Holds-from_get m n bytes e))
] refl

-- what has no bytes is not held
pub free_from_get : (m : Held) (n : Name) → map.get m n ≡ None → Holds m n → ⊥
free_from_get m n none held = true≢false (sym held ∙ ap is_some none)

-- bytes that are held after a put were held before it, or they are those that were put
pub get_before : (m : Held) (n : Name) (bytes : List ℕ) (q : Name) (kept : List ℕ) → map.get (map.insert m n bytes) q ≡ Some kept
    → (map.get m q ≡ Some kept) ⊎ ((q ≡ n) × (bytes ≡ kept))
get_before m n bytes q kept held = elim (eq_by_cmp name_cmp q n) as (λ b. eq_by_cmp name_cmp q n ≡ b → cond b (Some bytes) (map.get m q) ≡ Some kept
    → (map.get m q ≡ Some kept) ⊎ ((q ≡ n) × (bytes ≡ kept))) [
      | true ↦ λ tie same. inr (same_from_tie name_total name_exact q n tie, same_Some bytes kept same)
      | false ↦ λ _ before. inl before
    ] refl (sym (map.get-insert name_total m n bytes q) ∙ held)

-- a put of a new object leaves the rest alone, and deeds of its identifier may come with it
pub keeps_put : (m : Held) (h : History) (n : Name) (bytes : List ℕ) (id : ℕ) (more : History) → (Holds m n → ⊥) → MarksNone m n → (id_in n ≡ Some id) ⊎ (n ≡ name.Domain)
    → ((k : Key) → Contains (keys more) k → k.id ≡ id) → Keeps m (map.insert m n bytes) h (h ++ more) id
keeps_put m h n bytes id more free marks carries come = record {
  keeps = λ q kept _ e. stays_held m n bytes q kept free e;
  adds = λ q kept held. elim (get_before m n bytes q kept held) [
    | inl before ↦ inl before
    | inr same ↦ inr (subst (λ p. (id_in p ≡ Some id) ⊎ (p ≡ name.Domain)) (sym same.0) carries)
  ];
  names = λ g f committed named. let before = named_before m n bytes free marks g f committed named in inr (g, before.0, before.1);
  more = more;
  grows = refl;
  come = come;
}

-- a name that is none of a commit marks none
pub marks_domain : (m : Held) → MarksNone m name.Domain
marks_domain m = record { no_vac = λ g _ e. cc; bare = λ f e. absurd (no_wrt f e) }
  where
    no_wrt : (f : FragKey) → wrt_of f ≡ name.Domain → ⊥
    no_wrt f e = cc

pub marks_schema : (m : Held) (k : Key) → MarksNone m (name.Schema k)
marks_schema m k = record { no_vac = λ g _ e. cc; bare = λ f e. absurd (no_wrt f e) }
  where
    no_wrt : (f : FragKey) → wrt_of f ≡ name.Schema k → ⊥
    no_wrt f e = cc

pub marks_part : (m : Held) (g : FragKey) (part : Part) → MarksNone m (name.Part g part)
marks_part m g part = record { no_vac = λ g _ e. cc; bare = λ f e. absurd (no_wrt f e) }
  where
    no_wrt : (f : FragKey) → wrt_of f ≡ name.Part g part → ⊥
    no_wrt f e = cc

pub marks_delete : (m : Held) (k : Key) → MarksNone m (del_of k)
marks_delete m k = record { no_vac = λ g _ e. cc; bare = λ f e. absurd (no_wrt f e) }
  where
    no_wrt : (f : FragKey) → wrt_of f ≡ del_of k → ⊥
    no_wrt f e = cc

-- nor does a `.wrt` of a fragment that is in no `.vac`
pub marks_wrt : (m : Held) (f : FragKey) → IsBare m f → MarksNone m (wrt_of f)
marks_wrt m f bare = record { no_vac = λ g _ e. cc; bare = λ g same. subst (IsBare m) (sym (one_frag g same)) bare }
  where
    one_frag : (g : FragKey) → wrt_of g ≡ wrt_of f → g ≡ f
    one_frag g same = cc

-- ---- what stands after a put

-- what is asked of a committed fragment, and of a write
abbrev IsWhole : Spelled → History → Held → FragKey → Type 0
IsWhole spelled h m f = (p : Piece) × HoldsIn spelled h m f p

abbrev IsCovered : Spelled → History → Held → Written → Type 0
IsCovered spelled h m w = IsReached spelled h m w.key

module _ (spelled : Spelled) (m : Held) (h : History) (n : Name) (bytes : List ℕ) (more : History) (free : Holds m n → ⊥) (stands : Stands spelled m h) where
  -- what is held after the put
  abbrev later : Held
  later = map.insert m n bytes

  -- what is written has new keys
  abbrev AreNew : Type 0
  AreNew = (w : Written) → Contains (writes more) w → IsNewKey h w.key

  -- parts that are held stay held
  parts_stay : (f : FragKey) → PartsStay m later f
  parts_stay f part kept e = stays_held m n bytes (name.Part f part) kept free e

  -- what a fragment holds it goes on holding
  in_grows : AreNew → (f : FragKey) (p : Piece) → HoldsIn spelled h m f p → HoldsIn spelled (h ++ more) later f p
  in_grows new f p is = holds_on_in spelled (h ++ more) m later f p (parts_stay f) (holds_in_grows h more new spelled m f p is)

  -- each fragment that was committed before goes on holding what its origins wrote
  whole_grows : AreNew → (f : FragKey) → IsCommitted later f → (wrt_of f ≡ n → IsWhole spelled (h ++ more) later f) → IsWhole spelled (h ++ more) later f
  whole_grows new f committed own = elim (held_before m n bytes (wrt_of f) committed) [
    | inl before ↦ let is = stands.whole f before in (is.0, in_grows new f is.0 is.1)
    | inr same ↦ own same
  ]

  -- each write goes on being in a committed fragment
  covered_grows : AreNew → (w : Written) → Contains (writes (h ++ more)) w → (Contains (writes more) w → IsCovered spelled (h ++ more) later w) → IsCovered spelled (h ++ more) later w
  covered_grows new w at come = elim (Contains-append_cases (writes h) (writes more) w (subst (λ ws. Contains ws w) (writes-append h more) at)) [
    | inl before ↦
        let is = stands.covered w before in
        let went = is.went in
        record {
          frag = is.frag;
          committed = holds_stays m n bytes (wrt_of is.frag) free is.committed;
          went = record { piece = went.piece; holds = in_grows new is.frag went.piece went.holds; origin = went.origin };
        }
    | inr own ↦ come own
  ]

  -- the frame goes on standing where none is put
  frame_grows : (name.Domain ≡ n → ⊥) → frame_in more ≡ None → map.get later name.Domain ≡ option_map frame_object (frame_in (h ++ more))
  frame_grows other none = get_apart m n bytes name.Domain other ∙ stands.frame ∙ ap (option_map frame_object) (sym (frame_in-unframed h more none))

  -- a schema goes on standing where it is not the one that is put
  schema_grows : (k : Key) → (name.Schema k ≡ n → ⊥) → schema_with (h ++ more) k ≡ schema_with h k → map.get later (name.Schema k) ≡ option_map (λ s. schema_object s.attrs) (schema_with (h ++ more) k)
  schema_grows k other same = get_apart m n bytes (name.Schema k) other ∙ stands.schemas k ∙ ap (option_map (λ s. schema_object s.attrs)) (sym same)

  -- a delete goes on standing where it is not the one that is put
  delete_grows : (f : FragKey) → (name.Commit f Del ≡ n → ⊥) → deletion_of (h ++ more) f ≡ deletion_of h f → map.get later (name.Commit f Del) ≡ option_map (λ x. cond_object x.cond) (deletion_of (h ++ more) f)
  delete_grows f other same = get_apart m n bytes (name.Commit f Del) other ∙ stands.deletes f ∙ ap (option_map (λ x. cond_object x.cond)) (sym same)

  -- a frame stays short where what is put is so
  short_frame_grows : IsShort bytes → (kept : List ℕ) → map.get later name.Domain ≡ Some kept → IsShort kept
  short_frame_grows short kept e = elim (get_before m n bytes name.Domain kept e) [
    | inl before ↦ stands.short_frame kept before
    | inr same ↦ subst IsShort same.1 short
  ]

  -- schemas stay short where what is put is so
  short_schemas_grow : IsShort bytes → (k : Key) (kept : List ℕ) → map.get later (name.Schema k) ≡ Some kept → IsShort kept
  short_schemas_grow short k kept e = elim (get_before m n bytes (name.Schema k) kept e) [
    | inl before ↦ stands.short_schemas k kept before
    | inr same ↦ subst IsShort same.1 short
  ]

  -- deletes stay short where what is put is so
  short_deletes_grow : IsShort bytes → (f : FragKey) (kept : List ℕ) → map.get later (name.Commit f Del) ≡ Some kept → IsShort kept
  short_deletes_grow short f kept e = elim (get_before m n bytes (name.Commit f Del) kept e) [
    | inl before ↦ stands.short_deletes f kept before
    | inr same ↦ subst IsShort same.1 short
  ]

-- ---- a part

-- a part that is put stands for no deed
pub stands_put : (spelled : Spelled) (m : Held) (h : History) (f : FragKey) (part : Part) (bytes : List ℕ) → (Holds m (name.Part f part) → ⊥) → IsShort bytes → Stands spelled m h
    → Stands spelled (map.insert m (name.Part f part) bytes) h
stands_put spelled m h f part bytes free short stands = subst (Stands spelled (map.insert m (name.Part f part) bytes)) (append-nil h) (record {
  history = subst IsHistory (sym (append-nil h)) stands.history;
  frame = frame_grows spelled m h (name.Part f part) bytes [] free stands (λ e. cc) refl;
  schemas = λ k. schema_grows spelled m h (name.Part f part) bytes [] free stands k (λ e. cc) (ap (λ g. schema_with g k) (append-nil h));
  deletes = λ g. delete_grows spelled m h (name.Part f part) bytes [] free stands g (λ e. cc) (ap (λ k. deletion_of k g) (append-nil h));
  short_frame = short_frame_grows spelled m h (name.Part f part) bytes [] free stands short;
  short_schemas = short_schemas_grow spelled m h (name.Part f part) bytes [] free stands short;
  short_deletes = short_deletes_grow spelled m h (name.Part f part) bytes [] free stands short;
  whole = λ g committed. whole_grows spelled m h (name.Part f part) bytes [] free stands (λ v none. absurd (Contains-nil v none)) g committed (λ e. cc);
  merged = merged_grows m (name.Part f part) bytes free (marks_part m f part) spelled h [] (λ v none. absurd (Contains-nil v none)) stands.merged;
  covered = λ w at. covered_grows spelled m h (name.Part f part) bytes [] free stands (λ v none. absurd (Contains-nil v none)) w at (λ none. absurd (Contains-nil w none));
})

-- ---- the frame

-- where no frame is held there is no deed yet
pub first_deed : (spelled : Spelled) (m : Held) (h : History) → (Holds m name.Domain → ⊥) → Stands spelled m h → h ≡ []
first_deed spelled m h free stands = no_deeds h stands.history (unframed (frame_in h) (sym stands.frame ∙ get_free m name.Domain free))
  where
    unframed : (o : Option Frame) → option_map frame_object o ≡ None → o ≡ None
    unframed None e = refl
    unframed (Some f) e = absurd (none-some (frame_object f) (sym e))

-- a frame that is held is one of the history
pub frame_held : (spelled : Spelled) (m : Held) (h : History) → Stands spelled m h → Holds m name.Domain → (frame : Frame) × (frame_in h ≡ Some frame)
frame_held spelled m h stands held = from (frame_in h) refl
  where
    from : (o : Option Frame) → frame_in h ≡ o → (frame : Frame) × (frame_in h ≡ Some frame)
    from None none = absurd (free_from_get m name.Domain (stands.frame ∙ ap (option_map frame_object) none) held)
    from (Some frame) is = (frame, is)

-- the frame that is put is the first deed
pub stands_frame : (spelled : Spelled) (m : Held) (h : History) (frame : Frame) → (Holds m name.Domain → ⊥) → IsFrame frame → IsShort (frame_object frame) → Stands spelled m h
    → Stands spelled (map.insert m name.Domain (frame_object frame)) (h ++ Framed frame ∷ [])
stands_frame spelled m h frame free is short stands = record {
  history = IsHistory-push h (Framed frame) stands.history (record { first = first_deed spelled m h free stands; is_frame = is });
  frame = get_put m name.Domain (frame_object frame) ∙ ap (λ g. option_map frame_object (frame_in (g ++ Framed frame ∷ []))) (sym (first_deed spelled m h free stands));
  schemas = λ k. schema_grows spelled m h name.Domain (frame_object frame) (Framed frame ∷ []) free stands k (λ e. cc) (schema_with-undeclared h (Framed frame ∷ []) k refl);
  deletes = λ f. delete_grows spelled m h name.Domain (frame_object frame) (Framed frame ∷ []) free stands f (λ e. cc) (deletion_of-unerased h (Framed frame ∷ []) f refl);
  short_frame = short_frame_grows spelled m h name.Domain (frame_object frame) (Framed frame ∷ []) free stands short;
  short_schemas = short_schemas_grow spelled m h name.Domain (frame_object frame) (Framed frame ∷ []) free stands short;
  short_deletes = short_deletes_grow spelled m h name.Domain (frame_object frame) (Framed frame ∷ []) free stands short;
  whole = λ f committed. whole_grows spelled m h name.Domain (frame_object frame) (Framed frame ∷ []) free stands (λ v none. absurd (Contains-nil v none)) f committed (λ e. cc);
  merged = merged_grows m name.Domain (frame_object frame) free (marks_domain m) spelled h (Framed frame ∷ []) (λ v none. absurd (Contains-nil v none)) stands.merged;
  covered = λ w at. covered_grows spelled m h name.Domain (frame_object frame) (Framed frame ∷ []) free stands (λ v none. absurd (Contains-nil v none)) w at (λ none. absurd (Contains-nil w none));
}

-- ---- a schema

-- a schema whose object was not held is the one of its key
pub declared_last : (spelled : Spelled) (m : Held) (h : History) (s : Schema) → (Holds m (name.Schema s.key) → ⊥) → Stands spelled m h → schema_with (h ++ Declared s ∷ []) s.key ≡ Some s
declared_last spelled m h s free stands =
    schema_with-or h (Declared s ∷ []) s.key
    ∙ ap (λ o. or_else o (cond (key_eq s.key s.key) (Some s) None)) (undeclared (schema_with h s.key) (sym (stands.schemas s.key) ∙ get_free m (name.Schema s.key) free))
    ∙ ap (λ b. cond b (Some s) None) (key_itself s.key)
  where
    undeclared : (o : Option Schema) → option_map (λ t. schema_object t.attrs) o ≡ None → o ≡ None
    undeclared None e = refl
    undeclared (Some t) e = absurd (none-some (schema_object t.attrs) (sym e))

-- the schema that is put is a deed
pub stands_schema : (spelled : Spelled) (m : Held) (h : History) (s : Schema) → (Holds m (name.Schema s.key) → ⊥) → SchemaFollows h s → IsShort (schema_object s.attrs) → Stands spelled m h
    → Stands spelled (map.insert m (name.Schema s.key) (schema_object s.attrs)) (h ++ Declared s ∷ [])
stands_schema spelled m h s free follows short stands = record {
  history = IsHistory-push h (Declared s) stands.history follows;
  frame = frame_grows spelled m h (name.Schema s.key) (schema_object s.attrs) (Declared s ∷ []) free stands (λ e. cc) refl;
  schemas = λ k. elim (key_eq s.key k) as (λ b. key_eq s.key k ≡ b
      → map.get (map.insert m (name.Schema s.key) (schema_object s.attrs)) (name.Schema k) ≡ option_map (λ t. schema_object t.attrs) (schema_with (h ++ Declared s ∷ []) k)) [
        | true ↦ λ same. at_key k (key_same s.key k same)
        | false ↦ λ other. schema_grows spelled m h (name.Schema s.key) (schema_object s.attrs) (Declared s ∷ []) free stands k
            (λ e. true≢false (sym (key_itself s.key) ∙ ap (key_eq s.key) (sym (same_key k e)) ∙ other))
            (schema_with-or h (Declared s ∷ []) k ∙ ap (λ b. or_else (schema_with h k) (cond b (Some s) None)) other ∙ or_none (schema_with h k))
      ] refl;
  deletes = λ f. delete_grows spelled m h (name.Schema s.key) (schema_object s.attrs) (Declared s ∷ []) free stands f (λ e. cc) (deletion_of-unerased h (Declared s ∷ []) f refl);
  short_frame = short_frame_grows spelled m h (name.Schema s.key) (schema_object s.attrs) (Declared s ∷ []) free stands short;
  short_schemas = short_schemas_grow spelled m h (name.Schema s.key) (schema_object s.attrs) (Declared s ∷ []) free stands short;
  short_deletes = short_deletes_grow spelled m h (name.Schema s.key) (schema_object s.attrs) (Declared s ∷ []) free stands short;
  whole = λ f committed. whole_grows spelled m h (name.Schema s.key) (schema_object s.attrs) (Declared s ∷ []) free stands (λ v none. absurd (Contains-nil v none)) f committed (λ e. cc);
  merged = merged_grows m (name.Schema s.key) (schema_object s.attrs) free (marks_schema m s.key) spelled h (Declared s ∷ []) (λ v none. absurd (Contains-nil v none)) stands.merged;
  covered = λ w at. covered_grows spelled m h (name.Schema s.key) (schema_object s.attrs) (Declared s ∷ []) free stands (λ v none. absurd (Contains-nil v none)) w at (λ none. absurd (Contains-nil w none));
}
  where
    same_key : (k : Key) → name.Schema k ≡ name.Schema s.key → k ≡ s.key
    same_key k e = cc

    at_key : (k : Key) → s.key ≡ k → map.get (map.insert m (name.Schema s.key) (schema_object s.attrs)) (name.Schema k) ≡ option_map (λ t. schema_object t.attrs) (schema_with (h ++ Declared s ∷ []) k)
    at_key k same =
        subst (λ l. map.get (map.insert m (name.Schema s.key) (schema_object s.attrs)) (name.Schema l) ≡ option_map (λ t. schema_object t.attrs) (schema_with (h ++ Declared s ∷ []) l)) same
        (get_put m (name.Schema s.key) (schema_object s.attrs) ∙ ap (option_map (λ t. schema_object t.attrs)) (sym (declared_last spelled m h s free stands)))

-- ---- the commit of a write

-- one `.wrt` is of one fragment
frag_of_wrt : (f g : FragKey) → wrt_of f ≡ wrt_of g → f ≡ g
frag_of_wrt f g same = cc

-- an empty object is short
short_nothing : IsShort []
short_nothing = omega arith

-- the write whose `.wrt` is put is a deed, where its parts spell it
module _ (spelled : Spelled) (m : Held) (h : History) (w : Written) (frame : Frame) (schema : Schema) (p : Piece) (free : Holds m (wrt_of (frag_of w.key)) → ⊥) (bare : IsBare m (frag_of w.key)) (follows : WriteFollows h w)
    (framed : frame_in h ≡ Some frame) (declared : schema_with h w.schema ≡ Some schema) (dense : p.head.dense ≡ frame.dense) (spells : Spells spelled m frame schema (frag_of w.key) p)
    (holds : HoldsWrite w p) (box : p.head.dense ≡ true → (c : List ℤ) → has_cell c w ≡ is_in_box (box_in p.head) c) (stands : Stands spelled m h) where
  -- the fragment of the write
  abbrev own : FragKey
  own = frag_of w.key

  -- what is held after the put
  abbrev then_held : Held
  then_held = map.insert m (wrt_of own) []

  -- the deed
  abbrev come : History
  come = Wrote w ∷ []

  -- the deeds are a history still
  is_history : IsHistory (h ++ come)
  is_history = IsHistory-push h (Wrote w) stands.history follows

  -- the write is new
  fresh : (v : Written) → Contains (writes come) v → IsNewKey h v.key
  fresh v at = subst (λ (u : Written). IsNewKey h u.key) (Contains-only w v at) follows.new

  -- it is one of the history
  written : Contains (writes (h ++ come)) w
  written = rw (writes-append h come) (Contains-append_right (writes h) (w ∷ []) w (Contains-here w []))

  -- its fragment holds it
  own_holds : HoldsIn spelled (h ++ come) then_held own p
  own_holds = record {
    frame = frame;
    framed = frame_in-append h come frame framed;
    dense = dense;
    schema = schema;
    declared = subst (λ k. schema_with (h ++ come) k ≡ Some schema) (sym holds.schema) (schema_with-append h come w.schema schema declared);
    spells = record {
      look = spells.look;
      spells = spells.spells;
      held = λ part kept e. parts_stay spelled m h (wrt_of own) [] come free stands own part kept (spells.held part kept e);
      short = spells.short;
      named = spells.named;
    };
    holds = ordinary_holds (h ++ come) is_history w written p holds box;
    name = (
      record { span = omega arith; version = refl },
      record { t1 = (follows.key).t; t2 = (follows.key).t; id = (follows.key).id; v = omega arith },
    );
  }

  -- it is in its fragment
  own_went : IsCovered spelled (h ++ come) then_held w
  own_went = record {
    frag = own;
    committed = Holds-from_get then_held (wrt_of own) [] (get_put m (wrt_of own) []);
    went = record { piece = p; holds = own_holds; origin = origin_is (h ++ come) is_history w written p holds box w.key ∙ key_itself w.key };
  }

  pub stands_commit : Stands spelled then_held (h ++ come)
  stands_commit = record {
    history = is_history;
    frame = frame_grows spelled m h (wrt_of own) [] come free stands (λ e. cc) refl;
    schemas = λ k. schema_grows spelled m h (wrt_of own) [] come free stands k (λ e. cc) (schema_with-undeclared h come k refl);
    deletes = λ f. delete_grows spelled m h (wrt_of own) [] come free stands f (λ e. cc) (deletion_of-unerased h come f refl);
    short_frame = short_frame_grows spelled m h (wrt_of own) [] come free stands short_nothing;
    short_schemas = short_schemas_grow spelled m h (wrt_of own) [] come free stands short_nothing;
    short_deletes = short_deletes_grow spelled m h (wrt_of own) [] come free stands short_nothing;
    whole = λ f committed. whole_grows spelled m h (wrt_of own) [] come free stands fresh f committed
        (λ same. subst (IsWhole spelled (h ++ come) then_held) (sym (frag_of_wrt f own same)) (p, own_holds));
    merged = merged_grows m (wrt_of own) [] free (marks_wrt m own bare) spelled h come fresh stands.merged;
    covered = λ v at. covered_grows spelled m h (wrt_of own) [] come free stands fresh v at (λ one. subst (IsCovered spelled (h ++ come) then_held) (Contains-only w v one) own_went);
  }

-- ---- a `.vac`

-- the `.vac` of a fragment that is not committed marks none
pub marks_vac : (m : Held) (f : FragKey) → (IsCommitted m f → ⊥) → MarksNone m (vac_of f)
marks_vac m f none = record { no_vac = λ g committed same. none (subst (IsCommitted m) (one_vac g same) committed); bare = λ g e. absurd (no_wrt g e) }
  where
    no_wrt : (g : FragKey) → wrt_of g ≡ vac_of f → ⊥
    no_wrt g e = cc

    one_vac : (g : FragKey) → vac_of g ≡ vac_of f → g ≡ f
    one_vac g same = cc

-- a `.vac` that is put before its fragment is committed stands for no deed
pub stands_vac : (spelled : Spelled) (m : Held) (h : History) (f : FragKey) (bytes : List ℕ) → (Holds m (vac_of f) → ⊥) → (IsCommitted m f → ⊥) → IsShort bytes → Stands spelled m h
    → Stands spelled (map.insert m (vac_of f) bytes) h
stands_vac spelled m h f bytes free none short stands = subst (Stands spelled (map.insert m (vac_of f) bytes)) (append-nil h) (record {
  history = subst IsHistory (sym (append-nil h)) stands.history;
  frame = frame_grows spelled m h (vac_of f) bytes [] free stands (λ e. cc) refl;
  schemas = λ k. schema_grows spelled m h (vac_of f) bytes [] free stands k (λ e. cc) (ap (λ g. schema_with g k) (append-nil h));
  deletes = λ g. delete_grows spelled m h (vac_of f) bytes [] free stands g (λ e. cc) (ap (λ k. deletion_of k g) (append-nil h));
  short_frame = short_frame_grows spelled m h (vac_of f) bytes [] free stands short;
  short_schemas = short_schemas_grow spelled m h (vac_of f) bytes [] free stands short;
  short_deletes = short_deletes_grow spelled m h (vac_of f) bytes [] free stands short;
  whole = λ g committed. whole_grows spelled m h (vac_of f) bytes [] free stands (λ v at. absurd (Contains-nil v at)) g committed (λ e. cc);
  merged = merged_grows m (vac_of f) bytes free (marks_vac m f none) spelled h [] (λ v at. absurd (Contains-nil v at)) stands.merged;
  covered = λ w at. covered_grows spelled m h (vac_of f) bytes [] free stands (λ v none. absurd (Contains-nil v none)) w at (λ none. absurd (Contains-nil w none));
})

-- ---- the `.wrt` of a consolidation

module _ (spelled : Spelled) (m : Held) (h : History) (f : FragKey) (free : Holds m (wrt_of f) → ⊥) (unnamed : IsNamed m f → ⊥) (names : List FragKey) (vac : Names m f names)
    (old : (x : FragKey) → Contains names x → IsCommitted m x ⊎ IsNamed m x) (short : IsShort vac.bytes) (are_names : AreNames names) (p : Piece) (holds : HoldsIn spelled h m f p) (stands : Stands spelled m h)
    (joins : (x : FragKey) → Contains names x → IsCommitted m x → Within spelled h m x f) where
  -- what is held after the put
  abbrev merged_held : Held
  merged_held = map.insert m (wrt_of f) []

  -- parts that are held stay held
  merged_parts : (g : FragKey) → PartsStay m merged_held g
  merged_parts g part kept e = stays_held m (wrt_of f) [] (name.Part g part) kept free e

  -- one `.wrt` is of one fragment
  merged_one : (g : FragKey) → wrt_of g ≡ wrt_of f → g ≡ f
  merged_one g same = cc

  -- the fragment holds its piece still
  pub merged_holds : HoldsIn spelled h merged_held f p
  merged_holds = holds_on_in spelled h m merged_held f p (merged_parts f) holds

  -- the fragment of a consolidation whose `.wrt` is put stands for no deed
  pub stands_merge : Stands spelled merged_held h
  stands_merge = subst (Stands spelled merged_held) (append-nil h) (record {
    history = subst IsHistory (sym (append-nil h)) stands.history;
    frame = frame_grows spelled m h (wrt_of f) [] [] free stands (λ e. cc) refl;
    schemas = λ k. schema_grows spelled m h (wrt_of f) [] [] free stands k (λ e. cc) (ap (λ g. schema_with g k) (append-nil h));
    deletes = λ g. delete_grows spelled m h (wrt_of f) [] [] free stands g (λ e. cc) (ap (λ k. deletion_of k g) (append-nil h));
    short_frame = short_frame_grows spelled m h (wrt_of f) [] [] free stands short_nothing;
    short_schemas = short_schemas_grow spelled m h (wrt_of f) [] [] free stands short_nothing;
    short_deletes = short_deletes_grow spelled m h (wrt_of f) [] [] free stands short_nothing;
    whole = λ g committed. whole_grows spelled m h (wrt_of f) [] [] free stands (λ v at. absurd (Contains-nil v at)) g committed
        (λ same. subst (λ k. IsWhole spelled k merged_held g) (sym (append-nil h)) (subst (IsWhole spelled h merged_held) (sym (merged_one g same)) (p, merged_holds)));
    merged = subst (λ k. AreMerged spelled k merged_held) (sym (append-nil h))
        (merged_joins m f free unnamed names vac old spelled h short are_names stands.merged (λ x named committed. within_on spelled h m merged_held x f (merged_parts x) (merged_parts f) (joins x named committed)));
    covered = λ w at. covered_grows spelled m h (wrt_of f) [] [] free stands (λ v none. absurd (Contains-nil v none)) w at (λ none. absurd (Contains-nil w none));
  })

  -- the put keeps what others rely on
  pub keeps_merge : (id : ℕ) → f.id ≡ id → Keeps m merged_held h h id
  keeps_merge id carries = record {
    keeps = λ q kept _ e. stays_held m (wrt_of f) [] q kept free e;
    adds = λ q kept held. elim (get_before m (wrt_of f) [] q kept held) [
      | inl before ↦ inl before
      | inr same ↦ inr (inl (ap id_in same.0 ∙ ap Some carries))
    ];
    names = joined_names m f free unnamed names vac old;
    more = [];
    grows = sym (append-nil h);
    come = λ k at. absurd (Contains-nil k at);
  }

-- ---- a delete

-- a delete whose object was not held is the one under its name
erased_last : (spelled : Spelled) (m : Held) (h : History) (x : Deletion) → (Holds m (del_of x.key) → ⊥) → Stands spelled m h → deletion_of (h ++ Erased x ∷ []) (frag_of x.key) ≡ Some x
erased_last spelled m h x free stands =
    deletion_of-or h (Erased x ∷ []) (frag_of x.key)
    ∙ ap (λ o. or_else o (cond (frag_eq (frag_of x.key) (frag_of x.key)) (Some x) None)) (unerased (deletion_of h (frag_of x.key)) (sym (stands.deletes (frag_of x.key)) ∙ get_free m (del_of x.key) free))
    ∙ ap (λ b. cond b (Some x) None) (frag_itself (frag_of x.key))
  where
    unerased : (o : Option Deletion) → option_map (λ y. cond_object y.cond) o ≡ None → o ≡ None
    unerased None e = refl
    unerased (Some y) e = absurd (none-some (cond_object y.cond) (sym e))

-- the delete that is put is a deed
pub stands_delete : (spelled : Spelled) (m : Held) (h : History) (x : Deletion) → (Holds m (del_of x.key) → ⊥) → DeletionFollows h x → IsShort (cond_object x.cond) → Stands spelled m h
    → Stands spelled (map.insert m (del_of x.key) (cond_object x.cond)) (h ++ Erased x ∷ [])
stands_delete spelled m h x free follows short stands = record {
  history = IsHistory-push h (Erased x) stands.history follows;
  frame = frame_grows spelled m h (del_of x.key) (cond_object x.cond) (Erased x ∷ []) free stands (λ e. cc) refl;
  schemas = λ k. schema_grows spelled m h (del_of x.key) (cond_object x.cond) (Erased x ∷ []) free stands k (λ e. cc) (schema_with-undeclared h (Erased x ∷ []) k refl);
  deletes = λ f. elim (frag_eq (frag_of x.key) f) as (λ b. frag_eq (frag_of x.key) f ≡ b
      → map.get (map.insert m (del_of x.key) (cond_object x.cond)) (name.Commit f Del) ≡ option_map (λ y. cond_object y.cond) (deletion_of (h ++ Erased x ∷ []) f)) [
        | true ↦ λ same. at_name f (frag_same (frag_of x.key) f same)
        | false ↦ λ other. delete_grows spelled m h (del_of x.key) (cond_object x.cond) (Erased x ∷ []) free stands f
            (λ e. true≢false (sym (frag_itself (frag_of x.key)) ∙ ap (frag_eq (frag_of x.key)) (sym (same_name f e)) ∙ other))
            (deletion_of-or h (Erased x ∷ []) f ∙ ap (λ b. or_else (deletion_of h f) (cond b (Some x) None)) other ∙ or_none (deletion_of h f))
      ] refl;
  short_frame = short_frame_grows spelled m h (del_of x.key) (cond_object x.cond) (Erased x ∷ []) free stands short;
  short_schemas = short_schemas_grow spelled m h (del_of x.key) (cond_object x.cond) (Erased x ∷ []) free stands short;
  short_deletes = short_deletes_grow spelled m h (del_of x.key) (cond_object x.cond) (Erased x ∷ []) free stands short;
  whole = λ f committed. whole_grows spelled m h (del_of x.key) (cond_object x.cond) (Erased x ∷ []) free stands (λ v none. absurd (Contains-nil v none)) f committed (λ e. cc);
  merged = merged_grows m (del_of x.key) (cond_object x.cond) free (marks_delete m x.key) spelled h (Erased x ∷ []) (λ v none. absurd (Contains-nil v none)) stands.merged;
  covered = λ w at. covered_grows spelled m h (del_of x.key) (cond_object x.cond) (Erased x ∷ []) free stands (λ v none. absurd (Contains-nil v none)) w at (λ none. absurd (Contains-nil w none));
}
  where
    same_name : (f : FragKey) → name.Commit f Del ≡ del_of x.key → f ≡ frag_of x.key
    same_name f e = cc

    at_name : (f : FragKey) → frag_of x.key ≡ f → map.get (map.insert m (del_of x.key) (cond_object x.cond)) (name.Commit f Del) ≡ option_map (λ y. cond_object y.cond) (deletion_of (h ++ Erased x ∷ []) f)
    at_name f same =
        subst (λ g. map.get (map.insert m (del_of x.key) (cond_object x.cond)) (name.Commit g Del) ≡ option_map (λ y. cond_object y.cond) (deletion_of (h ++ Erased x ∷ []) g)) same
        (get_put m (del_of x.key) (cond_object x.cond) ∙ ap (option_map (λ y. cond_object y.cond)) (sym (erased_last spelled m h x free stands)))

-- ---- where a call leads

-- a call leads to what is held and to the history that it comes to
pub leads_at : (spelled : Spelled) (past : History) (jobs : List Job) (seen : List Told) (e : Told) (m : Held) (id : ℕ) (n : Held) (g : History)
    → after_told m e ≡ n → history_told jobs past (seen ++ e ∷ []) ≡ g → Stands spelled n g → Keeps m n (history_told jobs past seen) g id → Leads spelled past jobs seen e m id
leads_at spelled past jobs seen e m id n g same_held same_history stands keeps = record {
  stands = later (Stands spelled) stands;
  leaves = later (λ x y. Keeps m x (history_told jobs past seen) y id) keeps;
}
  where
    later : (P : Held → History → Type 0) → P n g → P (after_told m e) (history_told jobs past (seen ++ e ∷ []))
    later P p = subst (λ x. P x (history_told jobs past (seen ++ e ∷ []))) (sym same_held) (subst (P n) (sym same_history) p)
