-- What a consolidation knows of its sources as it puts what they are merged into: they are committed still, and hold what they held.
use Rattle.std.proofs.Common.{◌≡◌, ℕ, ◌<◌, ◌^◌, true, ◌||◌, inl, inr, ◌⊎◌, List, [], ◌∷◌, ◌++◌, length, Result, Ok, suc, refl, sym, ◌∙◌, ap, subst, arith}
use Rattle.std.specs.Prelude.{Contains, ◌&&◌, nat_lt, take}
use Rattle.std.specs.List.{list_any}
use Rattle.std.proofs.lemmas.Bool.{and_parts, ltb-true}
use Rattle.std.proofs.lemmas.List.{append-nil, append_assoc, take_all}
use Rattle.std.proofs.lemmas.List.Elements.{All-contains}
use Rattle.ts_base.specs.declared.keys.Key.{Key}
use Rattle.ts_base.specs.declared.keys.FragKey.{FragKey}
use Rattle.ts_base.specs.declared.heads.Piece.{Piece}
use Rattle.ts_base.specs.declared.heads.Version.{Version}
use Rattle.ts_base.specs.declared.names.Name.TheVariants as name
use Rattle.ts_base.specs.Held.{Held}
use Rattle.ts_base.specs.Names.{wrt_of}
use Rattle.ts_schema.specs.declared.frames.Frame.{Frame}
use Rattle.ts_schema.specs.declared.schemas.Schema.{Schema}
use Rattle.ts_schema.specs.FrameTexts.{IsFrame}
use Rattle.ts_schema.specs.SchemaTexts.{AreAttrs}
use Rattle.ts_commit.specs.declared.vacs.VacOf.{VacOf}
use Rattle.ts_commit.specs.Selections.{has_origin, names_merged}
use Rattle.ts_wire.specs.Exact.{InTurn}
use Rattle.ts_commit.specs.Vacs.{AreNames, FitsName, names_of}
use Rattle.ts_model.specs.declared.commands.Job.{Job}
use Rattle.ts_model.specs.declared.deeds.Deed.TheVariants.{Framed, Declared, Wrote, Erased}
use Rattle.ts_model.specs.declared.deeds.Written.{Written}
use Rattle.ts_model.specs.declared.states.Opened.{Opened}
use Rattle.ts_model.specs.declared.states.Survey.{Survey}
use Rattle.ts_model.specs.Codecs.{Codec, CodecLaws, Spelled, Tracking}
use Rattle.ts_model.specs.Consolidated.{IsConsolidated, IsStorable}
use Rattle.ts_model.specs.Deeds.{Follow, History, IsHistory, IsKey, IsNewKey, writes, schema_with}
use Rattle.ts_model.specs.Jobs.{IsFit}
use Rattle.ts_model.specs.Merging.{AreSources, MergesTo, all_got, merged_piece, merged_with, heads_of as piece_heads}
use Rattle.ts_model.specs.States.{can_be_named, frags_of, heads_of, piece_merged, vac_of}
use Rattle.ts_model.specs.Told.{Told, held_told, history_told}
use Rattle.ts_model.proofs.HistoryLaws.{frame_facts, new_to_fewer, schema_facts, schema_with-is}
use Rattle.ts_model.proofs.ListLemmas.{Contains-nil, Contains-here, Contains-there, Contains-cons}
use Rattle.ts_model.proofs.MergedFits.{sources_fit, sources_merge}
use Rattle.ts_model.proofs.MergedPieces.{to_merged}
use Rattle.ts_model.proofs.Traces.{history_told_grows}
use Rattle.ts_law.specs.Kept.{AreSourcesIn, HasSources, IsSource, Since, all_taken_of}
use Rattle.ts_law.specs.Origins.{HoldsWrites}
use Rattle.ts_law.specs.Stands.{DoesName, HasName, HoldsIn, IsCommitted, IsNamed, Names, Spells, Stands, Within}
use Rattle.ts_law.proofs.Fetches.{one_head}
use Rattle.ts_law.proofs.Grows.{holds_in_grows, holds_on_in}
use Rattle.ts_law.proofs.HeldLemmas.{Holds-from_get, bytes_there}
use Rattle.ts_law.proofs.MergingLaw.{merged_holds}
use Rattle.ts_law.proofs.TakenWhole.{merged_taken}
use Rattle.ts_law.proofs.VacTexts.{merged_names, named_cases}

-- ---- writes that come later

-- the rest of what follows follows the first part
follow_rest : (before a b : History) → Follow before (a ++ b) → Follow (before ++ a) b
follow_rest before [] b is = subst (λ x. Follow x b) (sym (append-nil before)) is
follow_rest before (d ∷ a) b is = subst (λ x. Follow x b) (append_assoc before (d ∷ []) a) (follow_rest (before ++ d ∷ []) a b is.1)

-- the key of each write that follows is new
new_in : (before ds : History) (w : Written) → Follow before ds → Contains (writes ds) w → IsNewKey before w.key
new_in before [] w is at = absurd (Contains-nil w at)
new_in before (Framed frame ∷ ds) w is at = new_to_fewer before (Framed frame ∷ []) w.key (new_in (before ++ Framed frame ∷ []) ds w is.1 at)
new_in before (Declared s ∷ ds) w is at = new_to_fewer before (Declared s ∷ []) w.key (new_in (before ++ Declared s ∷ []) ds w is.1 at)
new_in before (Erased x ∷ ds) w is at = new_to_fewer before (Erased x ∷ []) w.key (new_in (before ++ Erased x ∷ []) ds w is.1 at)
new_in before (Wrote v ∷ ds) w is at = elim (Contains-cons v (writes ds) w at) [
  | inl same ↦ subst (λ (u : Written). IsNewKey before u.key) same (is.0).new
  | inr later ↦ new_to_fewer before (Wrote v ∷ []) w.key (new_in (before ++ Wrote v ∷ []) ds w is.1 later)
]

-- so is that of each write by which a history goes on
pub new_later : (h more : History) → IsHistory (h ++ more) → (w : Written) → Contains (writes more) w → IsNewKey h w.key
new_later h more is w at = new_in h more w (follow_rest [] h more is) at

-- each of the names that are read in turn has a spelling
in_turn_names : (front fs : List FragKey) → InTurn FitsName front fs → (x : FragKey) → Contains fs x → HasName x
in_turn_names front [] each x at = absurd (Contains-nil x at)
in_turn_names front (f ∷ fs) each x at = elim (Contains-cons f fs x at) [ inl same ↦ subst HasName same ((each.0).spelled, (each.0).fits) | inr later ↦ in_turn_names (front ++ f ∷ []) fs each.1 x later ]

-- ---- sources and their pieces

module _ {F : Type 0} (codec : Codec F) (spelled : Spelled) (g : History) (m : Held) (frame : Frame) (schema : Schema) where
  -- there is a piece for each source
  pub one_each : (os : List Opened) (ps : List Piece) → AreSourcesIn codec spelled g m frame schema os ps → length ps ≡ length os
  one_each [] [] are = refl
  one_each (o ∷ os) (p ∷ ps) are = ap suc (one_each os ps are.1)
  one_each [] (p ∷ ps) are = absurd are
  one_each (o ∷ os) [] are = absurd are

  -- which has its head
  pub same_heads : (os : List Opened) (ps : List Piece) → AreSourcesIn codec spelled g m frame schema os ps → heads_of os ≡ piece_heads ps
  same_heads [] [] are = refl
  same_heads (o ∷ os) (p ∷ ps) are = ap (λ x. x ∷ heads_of os) (are.0).head ∙ ap (λ l. p.head ∷ l) (same_heads os ps are.1)
  same_heads [] (p ∷ ps) are = absurd are
  same_heads (o ∷ os) [] are = absurd are

  -- each piece is that of a source
  pub source_of : (os : List Opened) (ps : List Piece) → AreSourcesIn codec spelled g m frame schema os ps → (q : Piece) → Contains ps q → (x : Opened) × Contains os x × IsSource codec spelled g m frame schema x q
  source_of [] [] are q at = absurd (Contains-nil q at)
  source_of (o ∷ os) (p ∷ ps) are q at = elim (Contains-cons p ps q at) [
    | inl same ↦ (o, Contains-here o os, subst (IsSource codec spelled g m frame schema o) same are.0)
    | inr later ↦ let x = source_of os ps are.1 q later in (x.0, Contains-there o os x.0 x.1, x.2)
  ]
  source_of [] (p ∷ ps) are q at = absurd are
  source_of (o ∷ os) [] are q at = absurd are

  -- each source has a piece
  pub piece_for : (os : List Opened) (ps : List Piece) → AreSourcesIn codec spelled g m frame schema os ps → (f : FragKey) → Contains (frags_of os) f → (x : Opened) × (q : Piece) × Contains ps q × IsSource codec spelled g m frame schema x q × (x.frag ≡ f)
  piece_for [] [] are f at = absurd (Contains-nil f at)
  piece_for (o ∷ os) (p ∷ ps) are f at = elim (Contains-cons o.frag (frags_of os) f at) [
    | inl same ↦ (o, p, Contains-here p ps, are.0, same)
    | inr later ↦ let x = piece_for os ps are.1 f later in (x.0, x.1, Contains-there p ps x.1 x.2, x.3, x.4)
  ]
  piece_for [] (p ∷ ps) are f at = absurd are
  piece_for (o ∷ os) [] are f at = absurd are

  -- the pieces of a first source and others are a first one and others
  pub first_piece : (o : Opened) (os : List Opened) (ps : List Piece) → AreSourcesIn codec spelled g m frame schema (o ∷ os) ps → (p : Piece) × (rest : List Piece) × (ps ≡ p ∷ rest)
  first_piece o os [] are = absurd are
  first_piece o os (p ∷ rest) are = (p, rest, refl)

-- ---- what is so now

module _ {F : Type 0} (codec : Codec F) (spelled : Spelled) (tracks : Tracking F) (laws : CodecLaws codec spelled tracks) (opening : Held) (past : History) (jobs : List Job) (seen : List Told) (m : Held) (number : ℕ) (job : Job)
    (s : Survey) (o : Opened) (others : List Opened) (schema : Schema) (has : HasSources codec spelled opening past jobs seen m number job s (o ∷ others) schema) (stands : Stands spelled m (history_told jobs past seen)) where
  -- what the consolidation knows since it listed the commits
  abbrev pub since : Since spelled opening past jobs seen m number
  since = ((has.surveys).chooses).since

  -- the history then, and now
  abbrev pub g : History
  g = history_told jobs past (since.commits).before

  abbrev pub h : History
  h = history_told jobs past seen

  -- what was held then
  abbrev pub then : Held
  then = held_told opening (since.commits).before

  -- the history now begins with that one
  grown : (more : History) × (h ≡ g ++ more)
  grown = let rest = history_told_grows jobs past (since.commits).before ((since.commits).listing ∷ (since.commits).later) in (rest.0, ap (history_told jobs past) (since.commits).place ∙ rest.1)

  -- each write since then is new
  new : (w : Written) → Contains (writes grown.0) w → IsNewKey g w.key
  new = new_later g grown.0 (subst IsHistory grown.1 stands.history)

  -- what a fragment held then it holds now
  pub now_holds : (f : FragKey) (p : Piece) → HoldsIn spelled g then f p → HoldsIn spelled h m f p
  now_holds f p is =
      subst (λ x. HoldsIn spelled x m f p) (sym grown.1)
      (holds_on_in spelled (g ++ grown.0) then m f p (λ part bytes e. since.held (name.Part f part) bytes tt e) (holds_in_grows g grown.0 new spelled then f p is))

  -- what was committed then is committed now
  pub still_committed : (f : FragKey) → IsCommitted then f → IsCommitted m f
  still_committed f committed = let bytes = bytes_there then (wrt_of f) committed in Holds-from_get m (wrt_of f) bytes.0 (since.held (wrt_of f) bytes.0 tt bytes.1)

  -- what a `.vac` named then it names now
  still_names : (f : FragKey) (names : List FragKey) → Names then f names → Names m f names
  still_names f names is = record { bytes = is.bytes; held = since.held (vac_of f) is.bytes tt is.held; reads = is.reads }

  -- the sources' pieces: a first one and others
  abbrev parted : (p : Piece) × (rest : List Piece) × (has.pieces ≡ p ∷ rest)
  parted = first_piece codec spelled g then s.frame schema o others has.pieces has.are_sources

  abbrev pub first : Piece
  first = parted.0

  abbrev pub rest : List Piece
  rest = parted.1

  abbrev pub ps : List Piece
  ps = first ∷ rest

  pub are_in : AreSourcesIn codec spelled g then s.frame schema (o ∷ others) ps
  are_in = subst (AreSourcesIn codec spelled g then s.frame schema (o ∷ others)) parted.2 has.are_sources

  is_frame : IsFrame s.frame
  is_frame = frame_facts h s.frame stands.history (has.surveys).framed

  are_attrs : AreAttrs schema.attrs
  are_attrs = (schema_facts h schema.key schema stands.history has.declared).0

  -- each is in the schema
  keyed : (x : Opened) (q : Piece) → IsSource codec spelled g then s.frame schema x q → q.head.schema ≡ schema.key
  keyed x q is = sym (schema_with-is g q.head.schema (is.holds).schema (is.holds).declared).1 ∙ ap (λ (t : Schema). t.key) is.same_schema

  -- and can be written once more
  storable_one : (x : Opened) (q : Piece) → IsSource codec spelled g then s.frame schema x q → IsStorable s.frame schema.attrs q × codec.writable s.frame schema.attrs q
  storable_one x q is =
      laws.storable s.frame schema q ((is.holds).spells).look is_frame are_attrs ((is.holds).holds).ordinary
      (subst (λ f. spelled f schema q ((is.holds).spells).look) is.same_frame (subst (λ t. spelled (is.holds).frame t q ((is.holds).spells).look) is.same_schema ((is.holds).spells).spells))

  piece_source : (q : Piece) → Contains ps q → (x : Opened) × Contains (o ∷ others) x × IsSource codec spelled g then s.frame schema x q
  piece_source = source_of codec spelled g then s.frame schema (o ∷ others) ps are_in

  pub are : AreSources s.frame schema.attrs ps
  are = record {
    is_frame = is_frame;
    are_attrs = are_attrs;
    one_schema = λ p q at too. let a = piece_source p at in let b = piece_source q too in keyed a.0 p a.2 ∙ sym (keyed b.0 q b.2);
    storable = λ q at. let x = piece_source q at in (storable_one x.0 q x.2).0;
  }

  each_writable : (q : Piece) → Contains ps q → codec.writable s.frame schema.attrs q
  each_writable q at = let x = piece_source q at in (storable_one x.0 q x.2).1

  -- each holds writes of the history now
  hold : (q : Piece) → Contains ps q → HoldsWrites h q
  hold q at = let x = piece_source q at in (now_holds (x.0).frag q ((x.2).holds)).holds

  -- ---- what the names of its `.vac` are

  abbrev pub sources : List FragKey
  sources = frags_of (o ∷ others)

  abbrev pub names : List FragKey
  names = names_merged s.vacs sources

  source_piece : (f : FragKey) → Contains sources f → (x : Opened) × (q : Piece) × Contains ps q × IsSource codec spelled g then s.frame schema x q × (x.frag ≡ f)
  source_piece = piece_for codec spelled g then s.frame schema (o ∷ others) ps are_in

  -- a source is committed now
  source_committed : (f : FragKey) → Contains sources f → IsCommitted m f
  source_committed f at = let x = source_piece f at in subst (IsCommitted m) x.4 (still_committed (x.0).frag (x.3).committed)

  -- what the `.vac` of a source names it names now
  vac_names : (v : VacOf) (f : FragKey) → Contains s.vacs v → Contains v.names f → IsCommitted m v.frag × DoesName m v.frag f
  vac_names v f there named = let is = ((has.surveys).are_vacs).each v there in (still_committed v.frag is.0, (v.names, still_names v.frag v.names is.1, named))

  -- each name is that of a committed fragment, or a committed fragment's `.vac` names it
  pub old_names : (f : FragKey) → Contains names f → IsCommitted m f ⊎ IsNamed m f
  old_names f at = elim (named_cases s.vacs sources f at) [
    | inl own ↦ inl (source_committed f own)
    | inr (v, there, source, named) ↦ let is = vac_names v f there named in inr (v.frag, is.0, is.1)
  ]

  -- a `.vac` of a committed fragment has names with a spelling
  vac_spelled : (f : FragKey) (found : List FragKey) → IsCommitted m f → Names m f found → (x : FragKey) → Contains found x → HasName x
  vac_spelled f found committed is x at =
      let reads = (stands.merged).reads f is.bytes committed is.held in
      name_in reads.1.0 reads.1.2 x (subst (λ l. Contains l x) (one_read (names_of is.bytes) found reads.1.0 is.reads reads.1.1) at)
    where
      one_read : (r : Result (List FragKey) ℕ) (a b : List FragKey) → r ≡ Ok a → r ≡ Ok b → a ≡ b
      one_read r a b e d = cc

      name_in : (fs : List FragKey) → AreNames fs → (x : FragKey) → Contains fs x → HasName x
      name_in fs are_names x at = in_turn_names [] fs are_names.each x at

  -- so its own names are names that a `.vac` may have
  pub names_are : AreNames names
  names_are =
      merged_names s.vacs sources o.frag (Contains-here o.frag (frags_of others))
      (λ f at. let x = source_piece f at in subst HasName x.4 ((x.3).holds).name)
      (λ v f there named. let is = vac_names v f there named in vac_spelled v.frag v.names is.0 (still_names v.frag v.names (((has.surveys).are_vacs).each v there).1) f named)

  -- ---- the piece that they are merged into

  module _ (got : List (List Version)) (got_are : got ≡ all_taken_of s.frame schema.attrs (take (length (o ∷ others)) has.pieces)) (can : can_be_named (piece_merged job s.frame o others got) ≡ true) where
    abbrev pub own_piece : Piece
    own_piece = piece_merged job s.frame o others got

    abbrev pub frag : FragKey
    frag = own_piece.head.frag

    -- what was got is all of the sources' versions
    got_is : got ≡ all_taken_of s.frame schema.attrs ps
    got_is =
        got_are
        ∙ ap (all_taken_of s.frame schema.attrs) (take_all (length (o ∷ others)) has.pieces (let count = one_each codec spelled g then s.frame schema (o ∷ others) has.pieces has.are_sources in omega (arith, count)) ∙ parted.2)

    -- so the piece is what the sources' pieces are merged into
    piece_is : own_piece ≡ merged_piece s.frame job.id first rest
    piece_is =
        ap (λ l. merged_with s.frame job.id o.head (heads_of others) (all_got l)) got_is
        ∙ ap (λ x. merged_with s.frame job.id x (heads_of others) (all_got (all_taken_of s.frame schema.attrs ps))) (are_in.0).head
        ∙ ap (λ x. merged_with s.frame job.id first.head x (all_got (all_taken_of s.frame schema.attrs ps))) (same_heads codec spelled g then s.frame schema others rest are_in.1)
        ∙ merged_taken s.frame schema.attrs job.id first rest are

    -- it has few origins
    counts : (nat_lt (length (merged_piece s.frame job.id first rest).head.origins) (2 ^ 32) ≡ true)
        × ((nat_lt (length (merged_piece s.frame job.id first rest).versions) (2 ^ 32) && nat_lt (merged_piece s.frame job.id first rest).head.cells (2 ^ 32)) ≡ true)
    counts = and_parts _ _ (ap can_be_named (sym piece_is) ∙ can)

    -- and few versions, and its head counts few cells
    counts_cells : (nat_lt (length (merged_piece s.frame job.id first rest).versions) (2 ^ 32) ≡ true) × (nat_lt (merged_piece s.frame job.id first rest).head.cells (2 ^ 32) ≡ true)
    counts_cells = and_parts _ _ counts.1

    few : length (merged_piece s.frame job.id first rest).versions < 2 ^ 64
    few = let counted = ltb-true _ _ counts_cells.0 in omega (arith, counted)

    few_origins : length (merged_piece s.frame job.id first rest).head.origins < 2 ^ 32
    few_origins = ltb-true _ _ counts.0

    pub merges_to : MergesTo ps own_piece
    merges_to = subst (MergesTo ps) (sym piece_is) (sources_merge s.frame schema.attrs job.id first rest are few few_origins)

    pub fits : IsConsolidated s.frame schema.attrs own_piece
    fits = subst (IsConsolidated s.frame schema.attrs) (sym piece_is) (sources_fit s.frame schema.attrs job.id first rest are few few_origins)

    -- and can be written
    pub writable : codec.writable s.frame schema.attrs own_piece
    writable = subst (codec.writable s.frame schema.attrs) (sym piece_is) (laws.merged s.frame schema.attrs job.id first rest tt are each_writable (sources_fit s.frame schema.attrs job.id first rest are few few_origins) (ltb-true _ _ counts_cells.1))

    -- it holds what its origins wrote
    own_holds : HoldsWrites h own_piece
    own_holds = merged_holds h stands.history ps hold own_piece merges_to

    -- it is in the schema of the sources
    own_schema : own_piece.head.schema ≡ schema.key
    own_schema = ap (λ (x : Piece). x.head.schema) piece_is ∙ keyed o first are_in.0

    -- its name has a spelling
    own_name : IsFit job → HasName frag
    own_name fit =
        let span = fits.span in
        let low = span.least in
        let high = span.greatest_is in
        let low_key = All-contains IsKey own_piece.head.origins low.0 fits.are_keys low.1 in
        let high_key = All-contains IsKey own_piece.head.origins high.0 fits.are_keys high.1 in
        let up = span.up_to low.0 low.1 in
        let low_is = low.2 in
        let high_is = high.2 in
        let low_t = low_key.t in
        let high_t = high_key.t in (
          record { span = omega (arith, up, low_is); version = refl },
          record { t1 = omega (arith, low_is, low_t); t2 = omega (arith, high_is, high_t); id = fit.id; v = omega arith },
        )

    -- where its parts spell it, it is in its fragment
    pub own_in : IsFit job → Spells spelled m s.frame schema frag own_piece → HoldsIn spelled h m frag own_piece
    own_in fit spells = record {
      frame = s.frame;
      framed = (has.surveys).framed;
      dense = fits.dense;
      schema = schema;
      declared = ap (schema_with h) own_schema ∙ has.declared;
      spells = spells;
      holds = own_holds;
      name = own_name fit;
    }

    -- all that went into a source went into it
    abbrev source_within : (is : HoldsIn spelled h m frag own_piece) (f : FragKey) → Contains sources f → Within spelled h m f frag
    source_within is f at =
        let x = source_piece f at in
        record {
          piece = x.1;
          holds = subst (λ k. HoldsIn spelled h m k x.1) x.4 (now_holds (x.0).frag x.1 ((x.3).holds));
          other = own_piece;
          other_holds = is;
          within = λ k origin. to_merged ps own_piece merges_to x.1 k x.2 origin;
        }

    -- and so did all that went into what the `.vac` of a source names
    named_within : (is : HoldsIn spelled h m frag own_piece) (f v : FragKey) → Contains sources v → IsCommitted m v → DoesName m v f → IsCommitted m f → Within spelled h m f frag
    named_within is f v source by named committed =
        let below = (stands.merged).within v f by committed named in
        let above = source_within is v source in
        let same = one_head codec spelled tracks laws h m v below.other above.piece below.other_holds above.holds in
        record {
          piece = below.piece;
          holds = below.holds;
          other = own_piece;
          other_holds = is;
          within = λ k origin. above.within k (subst (λ x. has_origin k x ≡ true) same (below.within k origin));
        }

    pub names_within : HoldsIn spelled h m frag own_piece → (f : FragKey) → Contains names f → IsCommitted m f → Within spelled h m f frag
    names_within is f at committed = elim (named_cases s.vacs sources f at) [
      | inl own ↦ source_within is f own
      | inr (v, there, source, named) ↦ let by = vac_names v f there named in named_within is f v.frag source by.0 by.1 committed
    ]

    -- its origins are those of the sources
    pub own_origins : (k : Key) → has_origin k own_piece.head ≡ list_any (has_origin k) (heads_of (o ∷ others))
    own_origins k = merges_to.origins k ∙ any_heads k ps ∙ ap (list_any (has_origin k)) (sym (same_heads codec spelled g then s.frame schema (o ∷ others) ps are_in))
      where
        any_heads : (k : Key) (qs : List Piece) → list_any (λ q. has_origin k q.head) qs ≡ list_any (has_origin k) (piece_heads qs)
        any_heads k [] = refl
        any_heads k (q ∷ qs) = ap (λ b. has_origin k q.head || b) (any_heads k qs)
