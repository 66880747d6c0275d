-- The writes of rows, one row after another.
use Rattle.std.proofs.Common.{◌≡◌, ℕ, ◌+◌, ◌-◌, ◌<◌, ◌≤◌, List, [], ◌∷◌, ◌++◌, length, map, get_or, take, refl, sym, ap, subst, ◌∙◌, arith}
use Rattle.std.specs.List.{All}
use Rattle.std.proofs.lemmas.List.{take_more, map-append}
use Rattle.std.proofs.lemmas.List.Elements.{All-nil, All-cons, All-head, All-tail, All-append, All-weaker}
use Rattle.ts_base.specs.declared.keys.Key.{Key}
use Rattle.ts_table.specs.declared.origins.Origin.{Origin}
use Rattle.ts_table.specs.Tables.{no_origin}
use Rattle.ts_gather.specs.Rows.{write_at, origin_there}
use Rattle.ts_gather.specs.Runs.{EndsWith}

module _ (keys : List Key) (schema : Key) (origins rows : List ℕ) where
  -- each row so far has its write
  pub record Writing (writes : List Origin) (cells : List ℕ) (k : ℕ) : Type 0 where
    pub named : All (λ cell. cell < length writes) cells
    pub each : map (λ cell. get_or writes cell no_origin) cells ≡ map (origin_there keys schema origins) (take k rows)

  kept_all : (old new : List Origin) (cells : List ℕ) → ((c : ℕ) → c < length old → get_or new c no_origin ≡ get_or old c no_origin) → All (λ cell. cell < length old) cells
      → map (λ cell. get_or new cell no_origin) cells ≡ map (λ cell. get_or old cell no_origin) cells
  kept_all old new [] kept all = refl
  kept_all old new (c ∷ cells) kept all =
      let N = λ (cell : ℕ). cell < length old in
      ap (λ w. w ∷ map (λ cell. get_or new cell no_origin) cells) (kept c (All-head N c cells all))
      ∙ ap (λ ws. get_or old c no_origin ∷ ws) (kept_all old new cells kept (All-tail N c cells all))

  -- one row more
  pub writing_more : (old new : List Origin) (cells more : List ℕ) (k row o cell : ℕ) → Writing old cells k → k < length rows → row ≡ get_or rows k 0 → o ≡ get_or origins row 0 → EndsWith keys schema new o → cell ≡ length new - 1
      → length old ≤ length new → ((c : ℕ) → c < length old → get_or new c no_origin ≡ get_or old c no_origin) → more ≡ cells ++ cell ∷ [] → Writing new more (k + 1)
  writing_more old new cells more k row o cell writing within is of ends last longer kept push =
      let W = λ (cell : ℕ). get_or new cell no_origin in
      let N = λ (cell : ℕ). cell < length new in
      let below : cell < length new = omega (arith, last, ends.some) in
      record {
        named = subst (All N) (sym push) (All-append N cells (cell ∷ []) (All-weaker (λ c. c < length old) N (λ c less. omega (arith, less, longer)) cells writing.named) (All-cons N cell [] below (All-nil N)));
        each =
            ap (map W) push ∙ map-append W cells (cell ∷ []) ∙ ap (λ ws. ws ++ W cell ∷ []) (kept_all old new cells kept writing.named ∙ writing.each)
            ∙ ap (λ w. map (origin_there keys schema origins) (take k rows) ++ w ∷ []) (ap (λ n. get_or new n no_origin) last ∙ ends.last ∙ ap (write_at keys schema) (of ∙ ap (λ n. get_or origins n 0) is))
            ∙ sym (map-append (origin_there keys schema origins) (take k rows) (get_or rows k 0 ∷ [])) ∙ ap (map (origin_there keys schema origins)) (sym (take_more rows k 0 within));
      }
