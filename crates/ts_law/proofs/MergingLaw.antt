-- The law of merging: where each source holds writes of the history, so does the piece that they are merged into.
use Rattle.std.proofs.Common.{◌≡◌, ℤ, Bool, true, false, cond, ◌&&◌, ◌||◌, inl, inr, List, [], ◌∷◌, Option, Some, None, refl, sym, ◌∙◌, ap, subst}
use Rattle.std.specs.Prelude.{Contains, option_and_then}
use Rattle.std.specs.List.{list_any}
use Rattle.std.proofs.lemmas.Bool.{true≢false}
use Rattle.std.proofs.lemmas.Option.{same_Some, none-some}
use Rattle.ts_base.specs.declared.keys.Key.{Key}
use Rattle.ts_base.specs.declared.heads.Piece.{Piece}
use Rattle.ts_base.specs.declared.heads.Version.{Version}
use Rattle.ts_base.specs.Keys.{key_eq}
use Rattle.ts_base.specs.Coords.{coords_eq}
use Rattle.ts_commit.specs.Selections.{has_origin, keeps_last}
use Rattle.ts_model.specs.declared.deeds.Written.{Written}
use Rattle.ts_model.specs.Deeds.{History, IsHistory, writes}
use Rattle.ts_model.specs.Pieces.{version_at, version_of}
use Rattle.ts_model.specs.Merging.{all_versions, left_of, newest_at, with_key, MergesTo}
use Rattle.ts_model.proofs.ListLemmas.{Contains-nil, Contains-here, Contains-there, Contains-cons, Contains-filter, filter-Contains, find-append, or_else}
use Rattle.ts_model.proofs.HistoryLaws.{one_write}
use Rattle.ts_model.proofs.Members.{with_own_key}
use Rattle.ts_model.proofs.MergedPieces.{of_source, to_merged, origin_of, merged_span}
use Rattle.ts_law.specs.Origins.{origins_of, last_of, last_version, made_by, kept_of, IsWriteIn, HoldsWrites}
use Rattle.ts_law.proofs.NewestBy.{key_of_version, last_is, newest_by}
use Rattle.ts_law.proofs.OriginLaws.{made_by_filter, kept_of-is, last_of_fewer}

-- an item of all lists is one of one list
found_in_one : (ps : List Piece) (k : Key) (c : List ℤ) (v : Version) → version_at (all_versions ps) k c ≡ Some v → (q : Piece) × Contains ps q × (version_at q.versions k c ≡ Some v)
found_in_one [] k c v e = absurd (none-some v e)
found_in_one (q ∷ ps) k c v e = elim (version_at q.versions k c) as (λ o. version_at q.versions k c ≡ o → or_else o (version_at (all_versions ps) k c) ≡ Some v → (r : Piece) × Contains (q ∷ ps) r × (version_at r.versions k c ≡ Some v)) [
  | None ↦ λ none later. let rest = found_in_one ps k c v later in (rest.0, Contains-there q ps rest.0 rest.1, rest.2)
  | Some u ↦ λ some first. (q, Contains-here q ps, some ∙ first)
] refl (sym (find-append (λ u. key_eq u.key k && coords_eq u.coords c) q.versions (all_versions ps)) ∙ e)

-- what one list has, and no list has another, is found in all
found_in_all : (ps : List Piece) (k : Key) (c : List ℤ) (v : Version) → ((q : Piece) (u : Version) → Contains ps q → version_at q.versions k c ≡ Some u → u ≡ v)
    → (q : Piece) → Contains ps q → version_at q.versions k c ≡ Some v → version_at (all_versions ps) k c ≡ Some v
found_in_all [] k c v only q at e = absurd (Contains-nil q at)
found_in_all (r ∷ ps) k c v only q at e = find-append (λ u. key_eq u.key k && coords_eq u.coords c) r.versions (all_versions ps) ∙ elim (version_at r.versions k c) as (λ o. version_at r.versions k c ≡ o → or_else o (version_at (all_versions ps) k c) ≡ Some v) [
  | Some u ↦ λ some. ap Some (only r u (Contains-here r ps) some)
  | None ↦ λ none. elim (Contains-cons r ps q at) [
    | inl same ↦ absurd (none-some v (sym none ∙ ap (λ (x : Piece). version_at x.versions k c) same ∙ e))
    | inr later ↦ found_in_all ps k c v (λ s u there. only s u (Contains-there r ps s there)) q later e
  ]
] refl

module _ (h : History) (is : IsHistory h) (ps : List Piece) (hold : (q : Piece) → Contains ps q → HoldsWrites h q) where
  -- where all versions are kept, all lists together have the version of each write that went into one of the pieces
  all_made : (qs : List Piece) → ((q : Piece) → Contains qs q → Contains ps q) → ((q : Piece) → Contains qs q → keeps_last q.head ≡ false) → (k : Key) (c : List ℤ)
      → version_at (all_versions qs) k c ≡ cond (list_any (λ q. has_origin k q.head) qs) (made_by (writes h) k c) None
  all_made [] part kind k c = refl
  all_made (q ∷ qs) part kind k c =
      find-append (λ u. key_eq u.key k && coords_eq u.coords c) q.versions (all_versions qs)
      ∙ ap (λ o. or_else o (version_at (all_versions qs) k c)) ((hold q (part q (Contains-here q qs))).versions k c ∙ ap (λ t. kept_of t (origins_of h q.head) k c) (kind q (Contains-here q qs)) ∙ made_by_filter (λ l. has_origin l q.head) (writes h) k c)
      ∙ ap (or_else (cond (has_origin k q.head) (made_by (writes h) k c) None)) (all_made qs (λ r at. part r (Contains-there q qs r at)) (λ r at. kind r (Contains-there q qs r at)) k c)
      ∙ either (has_origin k q.head) (list_any (λ r. has_origin k r.head) qs) (made_by (writes h) k c)
    where
      either : (s t : Bool) (o : Option Version) → or_else (cond s o None) (cond t o None) ≡ cond (s || t) o None
      either true true None = refl
      either true false None = refl
      either true t (Some v) = refl
      either false t o = refl

  module _ (p : Piece) (merges : MergesTo ps p) where
    -- a write that went into a source went into the new piece
    pub source_write : (q : Piece) (w : Written) → Contains ps q → Contains (origins_of h q.head) w → Contains (origins_of h p.head) w
    source_write q w at own =
        let of = filter-Contains (λ u. has_origin u.key q.head) (writes h) w own in
        Contains-filter (λ u. has_origin u.key p.head) (writes h) w of.0 (to_merged ps p merges q w.key at of.1)

    -- a write that went into the new piece went into a source
    pub merged_write : (w : Written) → Contains (origins_of h p.head) w → (q : Piece) × Contains ps q × Contains (origins_of h q.head) w
    merged_write w own =
        let of = filter-Contains (λ u. has_origin u.key p.head) (writes h) w own in
        let source = of_source ps p merges w.key of.1 in
        (source.0, source.1, Contains-filter (λ u. has_origin u.key (source.0).head) (writes h) w of.0 source.2)

    -- each source keeps what the new piece keeps
    same_kind : (q : Piece) (t : Bool) → Contains ps q → keeps_last p.head ≡ t → keeps_last q.head ≡ t
    same_kind q t at kind = merges.dense q at ∙ kind

    module _ (kind : keeps_last p.head ≡ true) (c : List ℤ) where
      -- a version of the sources is that of an origin
      newest_of_write : (v : Version) → version_at (all_versions ps) v.key c ≡ Some v → (w : Written) × Contains (origins_of h p.head) w × (version_of w c ≡ Some v)
      newest_of_write v found =
          let one = found_in_one ps v.key c v found in
          let of = kept_of-is (keeps_last (one.0).head) (origins_of h (one.0).head) v.key c v (sym ((hold one.0 one.1).versions v.key c) ∙ one.2) in
          (of.0, source_write one.0 of.0 one.1 of.1, of.2)

      -- the last origin has its version in a source
      newest_has_last : (w : Written) (v : Version) → last_of (origins_of h p.head) c ≡ Some w → version_of w c ≡ Some v → version_at (all_versions ps) v.key c ≡ Some v
      newest_has_last w v last made = found_in_all ps v.key c v only source.0 source.1 there
        where
          member : Contains (origins_of h p.head) w
          member = (last_is (origins_of h p.head) c w last).0

          source : (q : Piece) × Contains ps q × Contains (origins_of h q.head) w
          source = merged_write w member

          only : (q : Piece) (u : Version) → Contains ps q → version_at q.versions v.key c ≡ Some u → u ≡ v
          only q u at found =
              let of = kept_of-is (keeps_last q.head) (origins_of h q.head) v.key c u (sym ((hold q at).versions v.key c) ∙ found) in
              let one = one_write h of.0 w is (filter-Contains (λ x. has_origin x.key q.head) (writes h) of.0 of.1).0 (filter-Contains (λ x. has_origin x.key p.head) (writes h) w member).0
              (sym (key_of_version of.0 c u of.2) ∙ of.3 ∙ key_of_version w c v made) in
              same_Some u v (sym of.2 ∙ ap (λ x. version_of x c) one ∙ made)

          there : version_at source.0.versions v.key c ≡ Some v
          there =
              (hold source.0 source.1).versions v.key c
              ∙ ap (λ t. kept_of t (origins_of h source.0.head) v.key c) (same_kind source.0 true source.1 kind)
              ∙ with_own_key (last_version (origins_of h source.0.head) c) v
              (ap (option_and_then (λ u. version_of u c))
              (last_of_fewer h is (origins_of h p.head) (origins_of h source.0.head) c w
              (λ u at. (source_write source.0 u source.1 at, (filter-Contains (λ x. has_origin x.key source.0.head) (writes h) u at).0)) last source.2) ∙ made)

      -- the newest version of the sources is that of the last origin
      pub newest_is_last : newest_at (all_versions ps) c ≡ last_version (origins_of h p.head) c
      newest_is_last = newest_by (all_versions ps) (origins_of h p.head) c newest_of_write newest_has_last

    -- what is left of the sources' versions is what is kept of the origins
    pub law_of_merging : (k : Key) (c : List ℤ) → version_at p.versions k c ≡ kept_of (keeps_last p.head) (origins_of h p.head) k c
    law_of_merging k c = merges.versions k c ∙ by (keeps_last p.head) refl
      where
        by : (t : Bool) → keeps_last p.head ≡ t → left_of t (all_versions ps) k c ≡ kept_of t (origins_of h p.head) k c
        by true kind = ap (with_key k) (newest_is_last kind c)
        by false kind =
            all_made ps (λ q at. at) (λ q at. same_kind q false at kind) k c
            ∙ ap (λ t. cond t (made_by (writes h) k c) None) (sym (merges.origins k))
            ∙ sym (made_by_filter (λ l. has_origin l p.head) (writes h) k c)

    -- the new piece holds what its origins wrote
    pub merged_holds : HoldsWrites h p
    merged_holds = record {
      origins = λ k at.
          let source = origin_of ps p merges k at in
          subst (λ s. IsWriteIn h s k) (merges.schema source.0 source.1) ((hold source.0 source.1).origins k source.2);
      ascend = merges.ascend;
      span = merged_span ps p merges (λ q at. (hold q at).span);
      ordinary = λ e. absurd (true≢false (sym merges.consolidated ∙ e));
      versions = law_of_merging;
      hull = λ dense. record {
        cells = λ w c at has.
            let source = merged_write w at in
            let own = (hold source.0 source.1).hull (merges.dense source.0 source.1 ∙ dense) in
            (merges.hull dense).boxes source.0 source.1 c (own.cells w c source.2 has);
        least = λ outer all.
            (merges.hull dense).least outer (λ q at. ((hold q at).hull (merges.dense q at ∙ dense)).least outer (λ w c own has. all w c (source_write q w at own) has));
      };
    }
