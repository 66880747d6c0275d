-- The puts of a consolidation: the parts of its piece, the `.vac`, and the `.wrt`, by which its fragment joins the committed ones.
use Rattle.std.proofs.Common.{◌≡◌, ℕ, Bool, ◌<◌, ◌≤◌, ◌⊎◌, true, false, cond, inl, inr, List, [], ◌∷◌, ◌++◌, length, Option, Some, None, zero, suc, refl, sym, ◌∙◌, ap, subst, arith}
use Rattle.std.specs.Prelude.{Contains, nat_lt, slice_get, slice_index_or, option_map}
use Rattle.std.specs.List.{list_any}
use Rattle.std.specs.FinMap as map
use Rattle.std.proofs.lemmas.Bool.{lt-ltb, le-ltb}
use Rattle.std.proofs.Math.Nat.{eq-or-lt_of_le}
use Rattle.std.proofs.lemmas.Option.{none-some, same_Some, slice_get-get_or, slice_get_within}
use Rattle.std.proofs.lemmas.List.{append-nil, length-map}
use Rattle.ts_base.specs.declared.keys.FragKey.{FragKey}
use Rattle.ts_base.specs.declared.names.LeaseMode.TheVariants.{Shr}
use Rattle.ts_base.specs.declared.names.Name.TheVariants as name
use Rattle.ts_base.specs.declared.names.PartBytes.{PartBytes}
use Rattle.ts_base.specs.declared.names.Prefix.TheVariants.{Commits}
use Rattle.ts_base.specs.declared.heads.Piece.{Piece}
use Rattle.ts_base.specs.declared.heads.Version.{Version}
use Rattle.ts_base.specs.Held.{Held}
use Rattle.ts_base.specs.Names.{wrt_of}
use Rattle.ts_schema.specs.declared.schemas.Schema.{Schema}
use Rattle.ts_schema.specs.Parts.{IsShort, look_in}
use Rattle.ts_store.specs.Calls.{after, is_no_memory}
use Rattle.ts_store.specs.declared.call.Call.TheVariants as call
use Rattle.ts_commit.specs.Selections.{has_origin, names_merged}
use Rattle.ts_commit.specs.Vacs.{vac_object}
use Rattle.ts_model.specs.declared.answers.Outcome.{Outcome}
use Rattle.ts_model.specs.declared.answers.Outcome.TheVariants as outcome
use Rattle.ts_model.specs.declared.commands.Job.{Job}
use Rattle.ts_model.specs.declared.states.NewObject.{NewObject}
use Rattle.ts_model.specs.declared.states.Opened.{Opened}
use Rattle.ts_model.specs.declared.states.State.TheVariants.{Puts, Over}
use Rattle.ts_model.specs.declared.states.Survey.{Survey}
use Rattle.ts_model.specs.Codecs.{Codec, CodecLaws, Spelled, Tracking}
use Rattle.ts_model.specs.Deeds.{History}
use Rattle.ts_model.specs.Jobs.{key_of}
use Rattle.ts_model.specs.Stages.{lease_of, mode_of}
use Rattle.ts_model.specs.States.{can_be_named, frags_of, merge_objects, part_objects, piece_merged, put_of, vac_object_of, vac_of}
use Rattle.ts_model.specs.Told.{Told, IsShortCall, after_told, held_told, history_told}
use Rattle.ts_model.proofs.ListLemmas.{Contains-nil}
use Rattle.ts_model.proofs.Traces.{held_told-append}
use Rattle.ts_law.specs.Ends.{IsMerged, IsUndone}
use Rattle.ts_law.specs.Kept.{AimsToMerge, Claims, Merges, Putting}
use Rattle.ts_law.specs.Stands.{HoldsIn, IsCommitted, IsNamed, Names, Spells, Stands}
use Rattle.ts_law.specs.Steps.{Advances, Comes, Keeps, Leads}
use Rattle.ts_law.proofs.HeldLemmas.{Holds, Holds-from_get, get_apart, get_put}
use Rattle.ts_law.proofs.LeaseSteps.{leased_history}
use Rattle.ts_law.proofs.MergeSources.{names_are, names_within, old_names, own_in, own_origins, writable}
use Rattle.ts_law.proofs.MergeStays.{aims_to_merge_stays, merge_carries}
use Rattle.ts_law.proofs.Objects.{IsOnce, look_finds, part_object}
use Rattle.ts_law.proofs.PutSteps.{Came, fault_is_true, put_asked, puts_on}
use Rattle.ts_law.proofs.StandsLaws.{keeps_merge, keeps_put, leads_at, marks_part, marks_vac, merged_holds, stands_merge, stands_put, stands_vac}
use Rattle.ts_law.proofs.Stays.{finds_schema_stays, listed_stays}
use Rattle.ts_law.proofs.Spent.{put_commits, unspent_on}
use Rattle.ts_law.proofs.VacLaws.{MarksNone}
use Rattle.ts_law.proofs.VacTexts.{names_again}

-- ---- what a consolidation puts at a place

-- the `.wrt` of a fragment
abbrev commit_object : FragKey → NewObject
commit_object frag = record { name = wrt_of frag; bytes = [] }

-- the objects of a consolidation
abbrev objects_for : FragKey → List PartBytes → List FragKey → List NewObject
objects_for frag parts names = part_objects frag parts ++ vac_object_of frag names ∷ commit_object frag ∷ []

-- what is at a place: a part, behind them the `.vac`, and last the `.wrt`
data MergePut (frag : FragKey) (parts : List PartBytes) (names : List FragKey) (i : ℕ) (o : NewObject) : Type 0 where
  APart : (x : PartBytes) → slice_get parts i ≡ Some x → o ≡ part_object frag x → MergePut frag parts names i o
  AVac : i ≡ length parts → o ≡ vac_object_of frag names → MergePut frag parts names i o
  ACommit : i ≡ suc (length parts) → o ≡ commit_object frag → MergePut frag parts names i o

-- behind one part more each is at the next place
put_behind : (frag : FragKey) (y : PartBytes) (parts : List PartBytes) (names : List FragKey) (i : ℕ) (o : NewObject) → MergePut frag parts names i o → MergePut frag (y ∷ parts) names (suc i) o
put_behind frag y parts names i o (APart x at is) = APart x at is
put_behind frag y parts names i o (AVac at is) = AVac (ap suc at) is
put_behind frag y parts names i o (ACommit at is) = ACommit (ap suc at) is

merge_put_at : (frag : FragKey) (parts : List PartBytes) (names : List FragKey) (i : ℕ) (o : NewObject) → slice_get (objects_for frag parts names) i ≡ Some o → MergePut frag parts names i o
merge_put_at frag [] names zero o at = AVac refl (sym (same_Some (vac_object_of frag names) o at))
merge_put_at frag [] names (suc zero) o at = ACommit refl (sym (same_Some (commit_object frag) o at))
merge_put_at frag [] names (suc (suc i)) o at = absurd (none-some o at)
merge_put_at frag (x ∷ parts) names zero o at = APart x refl (sym (same_Some (part_object frag x) o at))
merge_put_at frag (x ∷ parts) names (suc i) o at = put_behind frag x parts names i o (merge_put_at frag parts names i o at)

-- where each is
part_there : (frag : FragKey) (parts : List PartBytes) (names : List FragKey) (i : ℕ) (x : PartBytes) → slice_get parts i ≡ Some x → slice_get (objects_for frag parts names) i ≡ Some (part_object frag x)
part_there frag [] names i x at = absurd (none-some x at)
part_there frag (y ∷ parts) names zero x at = ap (λ z. Some (part_object frag z)) (same_Some y x at)
part_there frag (y ∷ parts) names (suc i) x at = part_there frag parts names i x at

vac_there : (frag : FragKey) (parts : List PartBytes) (names : List FragKey) → slice_get (objects_for frag parts names) (length parts) ≡ Some (vac_object_of frag names)
vac_there frag [] names = refl
vac_there frag (x ∷ parts) names = vac_there frag parts names

commit_there : (frag : FragKey) (parts : List PartBytes) (names : List FragKey) → slice_get (objects_for frag parts names) (suc (length parts)) ≡ Some (commit_object frag)
commit_there frag [] names = refl
commit_there frag (x ∷ parts) names = commit_there frag parts names

-- how many there are
merge_count : (frag : FragKey) (parts : List PartBytes) (names : List FragKey) → length (objects_for frag parts names) ≡ suc (suc (length parts))
merge_count frag [] names = refl
merge_count frag (x ∷ parts) names = ap suc (merge_count frag parts names)

-- no name of a part is that of the `.vac` or of the `.wrt`, and these differ
no_vac_part : (frag : FragKey) (x : PartBytes) → name.Part frag x.part ≡ vac_of frag → ⊥
no_vac_part frag x e = cc

no_commit_part : (frag : FragKey) (x : PartBytes) → name.Part frag x.part ≡ wrt_of frag → ⊥
no_commit_part frag x e = cc

no_commit_vac : (frag : FragKey) → vac_of frag ≡ wrt_of frag → ⊥
no_commit_vac frag e = cc

same_part : (frag : FragKey) (x y : PartBytes) → name.Part frag x.part ≡ name.Part frag y.part → x.part ≡ y.part
same_part frag x y e = cc

-- no two have one name
merge_apart : (frag : FragKey) (parts : List PartBytes) (names : List FragKey) → IsOnce parts → (i k : ℕ) (y z : NewObject)
    → slice_get (objects_for frag parts names) i ≡ Some y → slice_get (objects_for frag parts names) k ≡ Some z → y.name ≡ z.name → i ≡ k
merge_apart frag parts names once i k y z at too same = by (merge_put_at frag parts names i y at) (merge_put_at frag parts names k z too)
  where
    named : (o : NewObject) → y ≡ o → o.name ≡ z.name
    named o is = subst (λ (x : NewObject). x.name ≡ z.name) is same

    both : (o p : NewObject) → y ≡ o → z ≡ p → o.name ≡ p.name
    both o p is too = subst (λ (x : NewObject). o.name ≡ x.name) too (named o is)

    by : MergePut frag parts names i y → MergePut frag parts names k z → i ≡ k
    by (APart x a is) (APart x' b is') = once i k x x' a b (same_part frag x x' (both (part_object frag x) (part_object frag x') is is'))
    by (APart x a is) (AVac b is') = absurd (no_vac_part frag x (both (part_object frag x) (vac_object_of frag names) is is'))
    by (APart x a is) (ACommit b is') = absurd (no_commit_part frag x (both (part_object frag x) (commit_object frag) is is'))
    by (AVac a is) (APart x b is') = absurd (no_vac_part frag x (sym (both (vac_object_of frag names) (part_object frag x) is is')))
    by (AVac a is) (AVac b is') = a ∙ sym b
    by (AVac a is) (ACommit b is') = absurd (no_commit_vac frag (both (vac_object_of frag names) (commit_object frag) is is'))
    by (ACommit a is) (APart x b is') = absurd (no_commit_part frag x (sym (both (commit_object frag) (part_object frag x) is is')))
    by (ACommit a is) (AVac b is') = absurd (no_commit_vac frag (sym (both (commit_object frag) (vac_object_of frag names) is is')))
    by (ACommit a is) (ACommit b is') = a ∙ sym b

-- ---- one call

module _ {F : Type 0} (codec : Codec F) (spelled : Spelled) (tracks : Tracking F) (laws : CodecLaws codec spelled tracks) (opening : Held) (past : History) (jobs : List Job) (seen : List Told) (e : Told) (m : Held) (number : ℕ) (job : Job)
    (s : Survey) (o : Opened) (others : List Opened) (schema : Schema) (got : List (List Version)) (merges : Merges codec spelled opening past jobs seen m number job s (o ∷ others) schema (length (o ∷ others)) got)
    (can : can_be_named (piece_merged job s.frame o others got) ≡ true) where
  -- the history before the call, and after it
  abbrev h : History
  h = history_told jobs past seen

  abbrev h' : History
  h' = history_told jobs past (seen ++ e ∷ [])

  -- what is held after the call
  abbrev m' : Held
  m' = after_told m e

  -- the sources, and what the `.vac` names
  abbrev sources : List FragKey
  sources = frags_of (o ∷ others)

  abbrev vac_names : List FragKey
  vac_names = names_merged s.vacs sources

  abbrev piece : Piece
  piece = piece_merged job s.frame o others got

  abbrev own : FragKey
  own = piece.head.frag

  abbrev own_parts : List PartBytes
  own_parts = codec.parts s.frame schema piece

  abbrev own_objects : List NewObject
  own_objects = merge_objects codec s.frame schema piece vac_names

  abbrev own_end : Outcome
  own_end = outcome.Consolidated own (length (o ∷ others))

  abbrev ComesAt : ℕ → Type 0
  ComesAt next = Comes codec spelled tracks opening past jobs seen e m number job (Puts own_objects next own_end)

  abbrev AdvancesAt : ℕ → Type 0
  AdvancesAt next = Advances codec spelled tracks opening past jobs seen e m number job (Puts own_objects next own_end)

  abbrev CameWith : ℕ → NewObject → Type 0
  CameWith next x = Came codec spelled tracks opening past jobs seen e m number job own_objects next own_end x

  -- what it aims at
  abbrev aims : AimsToMerge codec spelled opening past jobs seen m number job own_objects own (length (o ∷ others))
  aims = record { survey = s; first = o; others = others; schema = schema; got = got; merges = merges; named = refl; counted = refl; can = can; are = refl }

  -- no object is put twice
  own_apart : (i k : ℕ) (y z : NewObject) → slice_get own_objects i ≡ Some y → slice_get own_objects k ≡ Some z → y.name ≡ z.name → i ≡ k
  own_apart = merge_apart own own_parts vac_names (laws.once s.frame schema piece)

  -- the job has a lease
  own_lease : lease_of job ≡ Some (name.Lease (key_of job) Shr)
  own_lease = ap (λ c. option_map (name.Lease (key_of job)) (mode_of c)) (((merges.has).surveys).merges)

  -- so its calls append no deed
  same_history : e.job ≡ Some number → slice_get jobs number ≡ Some job → h' ≡ h
  same_history at is = leased_history past jobs seen e number job (name.Lease (key_of job) Shr) at is own_lease

  module _ (next : ℕ) (x : NewObject) (at : slice_get own_objects next ≡ Some x) (c : ComesAt next) (free : Holds m x.name → ⊥) (same_held : m' ≡ map.insert m x.name x.bytes) where
    -- the history stays
    still : h' ≡ h
    still = same_history c.own c.is_job

    short_bytes : IsShort x.bytes
    short_bytes = subst IsShortCall (put_asked codec spelled tracks opening past jobs seen e m number job own_objects next own_end x at c) c.short

    undone : IsUndone h' job
    undone = subst (λ g. IsUndone g job) (sym still) (c.claims).undone

    -- an object that commits nothing was put, and the job goes on with the next one
    quiet_came : MarksNone m x.name → ((f : FragKey) → wrt_of f ≡ x.name → ⊥) → suc next < length own_objects → Stands spelled (map.insert m x.name x.bytes) h → CameWith next x
    quiet_came marks no_commit more stands = (
      leads,
      subst (λ b. Claims codec spelled tracks opening past jobs (seen ++ e ∷ []) m' number job (cond b (Puts own_objects (suc next) own_end) (Over own_end))) (sym (lt-ltb (suc next) (length own_objects) more)) putting_on,
      fault_is_true spelled opening jobs past (seen ++ e ∷ []) number job x.name undone,
    )
      where
        keeps : Keeps m (map.insert m x.name x.bytes) h h job.id
        keeps = subst (λ g. Keeps m (map.insert m x.name x.bytes) h g job.id) (append-nil h)
            (keeps_put m h x.name x.bytes job.id [] free marks (inl (merge_carries own own_parts vac_names next x at).0) (λ k none. absurd (Contains-nil k none)))

        leads : Leads spelled past jobs seen e m job.id
        leads = leads_at spelled past jobs seen e m job.id (map.insert m x.name x.bytes) h same_held still stands keeps

        put_now : (y : NewObject) → x ≡ y → map.get m' y.name ≡ Some y.bytes
        put_now y is = subst (λ z. map.get m' z.name ≡ Some z.bytes) is (ap (λ z. map.get z x.name) same_held ∙ get_put m x.name x.bytes)

        same_object : (i : ℕ) (y : NewObject) → i ≡ next → slice_get own_objects i ≡ Some y → x ≡ y
        same_object i y here found = same_Some x y (sym at ∙ ap (slice_get own_objects) (sym here) ∙ found)

        putting_on : Putting codec spelled opening past jobs (seen ++ e ∷ []) m' number job own_objects (suc next) own_end
        putting_on = record {
          held = λ i y before found. let within : i ≤ next = omega arith in elim (eq-or-lt_of_le within) [
            | inl here ↦ put_now y (same_object i y here found)
            | inr earlier ↦ (leads.leaves).keeps y.name y.bytes (merge_carries own own_parts vac_names i y found).1 ((c.claims).held i y earlier found)
          ];
          short = λ i y before found. let within : i ≤ next = omega arith in elim (eq-or-lt_of_le within) [
            | inl here ↦ subst (λ z. IsShort z.bytes) (same_object i y here found) short_bytes
            | inr earlier ↦ (c.claims).short i y earlier found
          ];
          free = λ i y behind found.
              ap (λ z. map.get z y.name) same_held ∙ get_apart m x.name x.bytes y.name (λ one. let here = own_apart i next y x found at one in omega arith) ∙ (c.claims).free i y (omega arith) found;
          some = more;
          undone = undone;
          unspent = unspent_on opening past seen e job.id (put_commits e job.id x.name x.bytes (put_asked codec spelled tracks opening past jobs seen e m number job own_objects next own_end x at c) no_commit) (c.claims).unspent;
          aims = aims_to_merge_stays spelled opening past jobs seen e m m' job.id leads.leaves number codec job own_objects own (length (o ∷ others)) aims;
        }

  -- a part was put
  part_step : (next : ℕ) (x : NewObject) (y : PartBytes) → slice_get own_objects next ≡ Some x → slice_get own_parts next ≡ Some y → x ≡ part_object own y → ComesAt next → AdvancesAt next
  part_step next x y at is same c = puts_on codec spelled tracks opening past jobs seen e m number job own_objects next own_end x at c (λ free same_held changed.
      quiet_came next x at c free same_held (subst (λ (z : NewObject). MarksNone m z.name) (sym same) (marks_part m own y.part)) (λ f e. no_wrt f (e ∙ ap (λ (z : NewObject). z.name) same))
      (let within = slice_get_within own_parts next y is in omega (arith, within, merge_count own own_parts vac_names))
      (subst (λ z. (Holds m z.name → ⊥) → IsShort z.bytes → Stands spelled (map.insert m z.name z.bytes) h) (sym same)
      (λ free_part short_part. stands_put spelled m h own y.part y.bytes free_part short_part c.stands) free (short_bytes next x at c free same_held)))
    where
      no_wrt : (f : FragKey) → wrt_of f ≡ name.Part own y.part → ⊥
      no_wrt f e = cc

  -- the `.vac` was put
  vac_step : ComesAt (length own_parts) → AdvancesAt (length own_parts)
  vac_step c = puts_on codec spelled tracks opening past jobs seen e m number job own_objects (length own_parts) own_end (vac_object_of own vac_names) there c (λ free same_held changed.
      quiet_came (length own_parts) (vac_object_of own vac_names) there c free same_held (marks_vac m own uncommitted) no_wrt
      (omega (arith, merge_count own own_parts vac_names))
      (stands_vac spelled m h own (vac_object vac_names) free uncommitted (short_bytes (length own_parts) (vac_object_of own vac_names) there c free same_held) c.stands))
    where
      there : slice_get own_objects (length own_parts) ≡ Some (vac_object_of own vac_names)
      there = vac_there own own_parts vac_names

      uncommitted : IsCommitted m own → ⊥
      uncommitted committed = (c.claims).unspent ((c.spent).committed own committed)

      no_wrt : (f : FragKey) → wrt_of f ≡ vac_of own → ⊥
      no_wrt f e = cc

  -- ---- the `.wrt`

  module _ (c : ComesAt (suc (length own_parts))) where
    -- the parts spell the piece, once all are put
    own_spells : Spells spelled m s.frame schema own piece
    own_spells = record {
      look = look_in own_parts;
      spells = laws.parts s.frame schema piece (writable codec spelled tracks laws opening past jobs seen m number job s o others schema merges.has c.stands got merges.got_are can)
          (λ k d within. short_at k (slice_index_or own_parts k d) (slice_get-get_or own_parts k d within));
      held = λ p bytes found.
          let at = look_finds own_parts p bytes found in
          let within = slice_get_within own_parts at.0 (record { part = p; bytes = bytes }) at.1 in
          (c.claims).held at.0 (part_object own (record { part = p; bytes = bytes })) (omega (arith, within)) (part_there own own_parts vac_names at.0 (record { part = p; bytes = bytes }) at.1);
      short = λ p bytes found. let at = look_finds own_parts p bytes found in short_at at.0 (record { part = p; bytes = bytes }) at.1;
      named = refl;
    }
      where
        short_at : (i : ℕ) (x : PartBytes) → slice_get own_parts i ≡ Some x → IsShort x.bytes
        short_at i x at =
            let within = slice_get_within own_parts i x at in
            (c.claims).short i (part_object own x) (omega (arith, within)) (part_there own own_parts vac_names i x at)

    -- the fragment holds its piece
    own_holds : HoldsIn spelled h m own piece
    own_holds = own_in codec spelled tracks laws opening past jobs seen m number job s o others schema merges.has c.stands got merges.got_are can c.fit own_spells

    -- its `.vac` is held, and is read
    vac_short : IsShort (vac_object vac_names)
    vac_short = (c.claims).short (length own_parts) (vac_object_of own vac_names) (omega arith) (vac_there own own_parts vac_names)

    abbrev own_vac : Names m own vac_names
    own_vac = record {
      bytes = vac_object vac_names;
      held = (c.claims).held (length own_parts) (vac_object_of own vac_names) (omega arith) (vac_there own own_parts vac_names);
      reads = names_again vac_names (names_are codec spelled tracks laws opening past jobs seen m number job s o others schema merges.has c.stands) (let few = vac_short in omega (arith, few));
    }

    module _ (free : Holds m (wrt_of own) → ⊥) (same_held : m' ≡ map.insert m (wrt_of own) []) where
      is : e.call ≡ call.Put (wrt_of own) []
      is = put_asked codec spelled tracks opening past jobs seen e m number job own_objects (suc (length own_parts)) own_end (commit_object own) (commit_there own own_parts vac_names) c

      unchanged : h' ≡ h
      unchanged = same_history c.own c.is_job

      unnamed : IsNamed m own → ⊥
      unnamed named = (c.claims).unspent ((c.spent).named own named)

      old : (f : FragKey) → Contains vac_names f → IsCommitted m f ⊎ IsNamed m f
      old = old_names codec spelled tracks laws opening past jobs seen m number job s o others schema merges.has c.stands

      leads : Leads spelled past jobs seen e m job.id
      leads = leads_at spelled past jobs seen e m job.id (map.insert m (wrt_of own) []) h same_held unchanged
          (stands_merge spelled m h own free unnamed vac_names own_vac old vac_short (names_are codec spelled tracks laws opening past jobs seen m number job s o others schema merges.has c.stands) piece own_holds c.stands
          (names_within codec spelled tracks laws opening past jobs seen m number job s o others schema merges.has c.stands got merges.got_are can own_holds))
          (keeps_merge spelled m h own free unnamed vac_names own_vac old vac_short (names_are codec spelled tracks laws opening past jobs seen m number job s o others schema merges.has c.stands) piece own_holds c.stands
          (names_within codec spelled tracks laws opening past jobs seen m number job s o others schema merges.has c.stands got merges.got_are can own_holds) job.id refl)

      -- what is held now, as it is told
      now : held_told opening (seen ++ e ∷ []) ≡ map.insert m (wrt_of own) []
      now = held_told-append opening seen (e ∷ []) ∙ ap (λ n. after_told n e) (sym c.is_held) ∙ same_held

      -- it is so of what is held now
      so_now : (P : History → Held → Type 0) → P h (map.insert m (wrt_of own) []) → P h' (held_told opening (seen ++ e ∷ []))
      so_now P p = subst (λ n. P h' n) (sym now) (subst (λ g. P g (map.insert m (wrt_of own) [])) (sym unchanged) p)

      -- the put found memory, since it added the `.wrt`
      memory : is_no_memory e.reply ≡ false
      memory = by_test (is_no_memory e.reply) refl
        where
          by_test : (b : Bool) → is_no_memory e.reply ≡ b → is_no_memory e.reply ≡ false
          by_test false is_it = is_it
          by_test true short =
              let still : m ≡ map.insert m (wrt_of own) [] = sym (ap (λ b. cond b m (after m e.call e.fate)) short) ∙ same_held in
              absurd (free (Holds-from_get m (wrt_of own) [] (ap (λ x. map.get x (wrt_of own)) still ∙ get_put m (wrt_of own) [])))

      -- so many fragments were merged
      merged : IsMerged spelled opening jobs past (seen ++ e ∷ []) number job own (length (o ∷ others))
      merged = record {
        from = s.from;
        to = s.to;
        limits = s.limits;
        merges = (((merges.has).surveys).merges);
        commits = listed_stays seen e number Commits ((((merges.has).surveys).chooses).since).commits;
        sources = sources;
        by_plan = (merges.has).by_plan;
        found = finds_schema_stays past jobs seen e number job ((merges.has).surveys).found;
        own = refl;
        counted = ap suc (sym (length-map others (λ (x : Opened). x.frag)));
        put = record { before = seen; made = e; later = []; place = refl; own = c.own; makes = is; memory = memory };
        later = (((((merges.has).surveys).chooses).since).commits).later;
        order = (((((merges.has).surveys).chooses).since).commits).place;
        committed = so_now (λ g n. IsCommitted n own) (Holds-from_get (map.insert m (wrt_of own) []) (wrt_of own) [] (get_put m (wrt_of own) []));
        piece = piece;
        holds = so_now (λ g n. HoldsIn spelled g n own piece)
            (merged_holds spelled m h own free unnamed vac_names own_vac old vac_short (names_are codec spelled tracks laws opening past jobs seen m number job s o others schema merges.has c.stands) piece own_holds c.stands
            (names_within codec spelled tracks laws opening past jobs seen m number job s o others schema merges.has c.stands got merges.got_are can own_holds));
        origins = λ k.
            own_origins codec spelled tracks laws opening past jobs seen m number job s o others schema merges.has c.stands got merges.got_are can k
            ∙ ap (list_any (has_origin k)) (merges.has).heads;
        merged = so_now (λ g n. Names n own (names_merged ((merges.has).by_plan).vacs sources)) (subst (λ v. Names (map.insert m (wrt_of own) []) own (names_merged v sources)) (sym (merges.has).same_vacs) vac_now);
      }
        where
          no_vac : vac_of own ≡ wrt_of own → ⊥
          no_vac e = cc

          vac_now : Names (map.insert m (wrt_of own) []) own vac_names
          vac_now = record { bytes = own_vac.bytes; held = get_apart m (wrt_of own) [] (vac_of own) no_vac ∙ own_vac.held; reads = own_vac.reads }

      still_undone : IsUndone h' job
      still_undone = subst (λ g. IsUndone g job) (sym unchanged) (c.claims).undone

      no_more : nat_lt (suc (suc (length own_parts))) (length own_objects) ≡ false
      no_more = ap (nat_lt (suc (suc (length own_parts)))) (merge_count own own_parts vac_names) ∙ le-ltb (suc (suc (length own_parts))) (suc (suc (length own_parts))) (omega arith)

      commit_came : CameWith (suc (length own_parts)) (commit_object own)
      commit_came = (
        leads,
        subst (λ b. Claims codec spelled tracks opening past jobs (seen ++ e ∷ []) m' number job (cond b (Puts own_objects (suc (suc (length own_parts))) own_end) (Over own_end))) (sym no_more) (still_undone, merged),
        fault_is_true spelled opening jobs past (seen ++ e ∷ []) number job (wrt_of own) still_undone,
      )

    -- the `.wrt` was put, and the job is over
    commit_step : AdvancesAt (suc (length own_parts))
    commit_step = puts_on codec spelled tracks opening past jobs seen e m number job own_objects (suc (length own_parts)) own_end (commit_object own) (commit_there own own_parts vac_names) c
        (λ free same_held changed. commit_came free same_held)

  -- a consolidation advances by each of its puts
  merge_step : (next : ℕ) → ComesAt next → AdvancesAt next
  merge_step next c = from (slice_get own_objects next) refl
    where
      from : (q : Option NewObject) → slice_get own_objects next ≡ q → AdvancesAt next
      from None none = absurd (none-some e.call (ap (option_map put_of) (sym none) ∙ c.asked))
      from (Some x) at = elim (merge_put_at own own_parts vac_names next x at) [
        | APart y is same ↦ part_step next x y at is same c
        | AVac is same ↦ subst (λ k. ComesAt k → AdvancesAt k) (sym is) vac_step c
        | ACommit is same ↦ subst (λ k. ComesAt k → AdvancesAt k) (sym is) commit_step c
      ]

-- a consolidation advances by each of its puts
pub merge_puts_steps : {F : Type 0} (codec : Codec F) (spelled : Spelled) (tracks : Tracking F) (laws : CodecLaws codec spelled tracks) (opening : Held) (past : History) (jobs : List Job) (seen : List Told) (e : Told) (m : Held) (number : ℕ) (job : Job)
    → (objects : List NewObject) (next : ℕ) (f : FragKey) (count : ℕ) → Comes codec spelled tracks opening past jobs seen e m number job (Puts objects next (outcome.Consolidated f count))
    → Advances codec spelled tracks opening past jobs seen e m number job (Puts objects next (outcome.Consolidated f count))
merge_puts_steps {F} codec spelled tracks laws opening past jobs seen e m number job objects next f count c =
    let aims = (c.claims).aims in
    subst (λ os. Step os f count) (sym aims.are) (subst (λ g. Step (objects_of aims) g count) (sym aims.named) (subst (λ n. Step (objects_of aims) (frag_of_aims aims) n) (sym aims.counted)
    (merge_step codec spelled tracks laws opening past jobs seen e m number job aims.survey aims.first aims.others aims.schema aims.got aims.merges aims.can next))) c
  where
    Step : List NewObject → FragKey → ℕ → Type 0
    Step os g n = Comes codec spelled tracks opening past jobs seen e m number job (Puts os next (outcome.Consolidated g n)) → Advances codec spelled tracks opening past jobs seen e m number job (Puts os next (outcome.Consolidated g n))

    frag_of_aims : AimsToMerge codec spelled opening past jobs seen m number job objects f count → FragKey
    frag_of_aims aims = (piece_merged job (aims.survey).frame aims.first aims.others aims.got).head.frag

    objects_of : AimsToMerge codec spelled opening past jobs seen m number job objects f count → List NewObject
    objects_of aims =
        merge_objects codec (aims.survey).frame aims.schema (piece_merged job (aims.survey).frame aims.first aims.others aims.got) (names_merged (aims.survey).vacs (frags_of (aims.first ∷ aims.others)))
