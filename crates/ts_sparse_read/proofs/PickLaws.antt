-- Taking the places of the wanted cells of a tile, and then the versions there.
use Rattle.std.proofs.Common.{◌≡◌, ℕ, zero, suc, ◌+◌, ◌<◌, ◌≤◌, Bool, true, false, cond, List, [], ◌∷◌, ◌++◌, length, map, take, refl, sym, ap, subst, ◌∙◌, arith}
use Rattle.std.specs.List.{All, range_with_len}
use Rattle.std.proofs.lemmas.List.{append-nil, map-append, length-append, take_more, take_all}
use Rattle.std.proofs.lemmas.List.Elements.{All-nil, All-cons, All-append, All-weaker}
use Rattle.ts_schema.specs.Wants.{is_wanted, cut}
use Rattle.ts_plain.specs.declared.stored.StoredCell.{StoredCell}
use Rattle.ts_plain.specs.Pieces.{version_in}
use Rattle.ts_gather.specs.Rows.{version_there, AreRows}
use Rattle.ts_sparse_read.specs.declared.columns.Columns.{Columns}
use Rattle.ts_sparse_read.specs.declared.opened.Opened.{Opened}
use Rattle.ts_sparse_read.specs.Sifts.{spot_of, cells_in, cell_in, AreSound, is_spot_wanted, place_if, versions_at, wanted_of}
use Rattle.ts_sparse_read.proofs.CellSteps.{cells_long, cell_there}
use Rattle.ts_sparse_read.proofs.SiftLaws.{wanted_join}

-- ---- the places

-- all places below an end, one more
range_more : (a n : ℕ) → range_with_len a (suc n) ≡ range_with_len a n ++ (a + n) ∷ []
range_more a zero = let same : a ≡ a + 0 = omega arith in ap (λ k. k ∷ []) same
range_more a (suc n) =
    let same : a + 1 + n ≡ a + suc n = omega arith in
    ap (λ ks. a ∷ ks) (range_more (a + 1) n) ∙ ap (λ k. a ∷ (range_with_len (a + 1) n ++ k ∷ [])) same

-- the places so far: they lie below the next one, and where they are as many as they can be, they are all in turn
pub record ArePicked (k : ℕ) (places : List ℕ) : Type 0 where
  pub within : All (λ i. i < k) places
  pub few : length places ≤ k
  pub whole : length places ≡ k → places ≡ range_with_len 0 k

pub picked_none : (places : List ℕ) → places ≡ [] → ArePicked 0 places
picked_none places is =
    subst (ArePicked 0) (sym is) (record { within = All-nil (λ i. i < 0); few = omega arith; whole = λ _. refl })

-- one place more, if it is one of those
pub picked_more : (old new : List ℕ) (k : ℕ) (b : Bool) → ArePicked k old → new ≡ old ++ place_if b k → ArePicked (k + 1) new
picked_more old new k true sofar is =
    let B = λ (i : ℕ). i < k + 1 in
    let long : length (old ++ k ∷ []) ≡ length old + 1 = length-append old (k ∷ []) in
    let one : suc k ≡ k + 1 = omega arith in
    let same : 0 + k ≡ k = omega arith in
    let below : k < k + 1 = omega arith in
    subst (ArePicked (k + 1)) (sym is)
    (record {
      within = All-append B old (k ∷ []) (All-weaker (λ i. i < k) B (λ i less. omega (arith, less)) old sofar.within) (All-cons B k [] below (All-nil B));
      few = omega (arith, long, sofar.few);
      whole = λ many.
          let before : length old ≡ k = omega (arith, long, many) in
          ap (λ ks. ks ++ k ∷ []) (sofar.whole before) ∙ ap (λ n. range_with_len 0 k ++ n ∷ []) (sym same) ∙ sym (range_more 0 k) ∙ ap (range_with_len 0) one;
    })
picked_more old new k false sofar is =
    let B = λ (i : ℕ). i < k + 1 in
    subst (ArePicked (k + 1)) (sym (is ∙ append-nil old))
    (record {
      within = All-weaker (λ i. i < k) B (λ i less. omega (arith, less)) old sofar.within;
      few = omega (arith, sofar.few);
      whole = λ many. absurd (omega (arith, many, sofar.few));
    })

-- behind the last cell they are rows of the tile
pub picked_all : (k count : ℕ) (places : List ℕ) → ArePicked k places → count ≤ k → k ≤ count → AreRows count places
picked_all k count places sofar over within =
    let end : k ≡ count = omega (arith, over, within) in
    subst (λ n. AreRows n places) end (record { within = sofar.within; whole = sofar.whole })

module _ (opened : Opened) (c : Columns) where
  -- ---- the versions at places

  one_version : (k : ℕ) → versions_at opened c (place_if (is_spot_wanted opened.want opened.head (spot_of (cell_in c k))) k) ≡ wanted_of opened.want opened.head (cell_in c k ∷ [])
  one_version k = go (is_wanted opened.want (version_in opened.head (cell_in c k)))
    where
      go : (b : Bool) → versions_at opened c (place_if b k) ≡ map (cut opened.want) (cond b (version_in opened.head (cell_in c k) ∷ []) [])
      go true = refl
      go false = refl

  -- one place more, if its cell is wanted
  versions_more : (old new : List ℕ) (k : ℕ) → new ≡ old ++ place_if (is_spot_wanted opened.want opened.head (spot_of (cell_in c k))) k
      → versions_at opened c new ≡ versions_at opened c old ++ wanted_of opened.want opened.head (cell_in c k ∷ [])
  versions_more old new k is =
      let F = version_there (opened.head).origins (opened.head).schema (opened.want).attrs c.coords c.origins c.vals in
      ap (versions_at opened c) is
      ∙ map-append F old (place_if (is_spot_wanted opened.want opened.head (spot_of (cell_in c k))) k)
      ∙ ap (λ vs. versions_at opened c old ++ vs) (one_version k)

  -- ---- cell by cell

  -- so far what is wanted of the cells is at these places
  pub record AreTaken (k : ℕ) (places : List ℕ) : Type 0 where
    pub versions : versions_at opened c places ≡ wanted_of opened.want opened.head (take k (cells_in c))
    pub rows : ArePicked k places

  -- before the first cell nothing is
  pub taken_none : (places : List ℕ) → places ≡ [] → AreTaken 0 places
  taken_none places is = record { versions = ap (versions_at opened c) is; rows = picked_none places is }

  -- one cell more
  pub taken_more : (old new : List ℕ) (k : ℕ) → AreSound opened.frame c → k < c.count → AreTaken k old → new ≡ old ++ place_if (is_spot_wanted opened.want opened.head (spot_of (cell_in c k))) k → AreTaken (k + 1) new
  taken_more old new k sound within sofar is =
      let d = cell_in c k in
      let long = cells_long c.count c.coords c.origins c.vals sound.coords sound.origins sound.vals in
      let there = cell_there c.count c.coords c.origins c.vals k d sound.coords sound.origins sound.vals within in
      let one = take_more (cells_in c) k d (omega (arith, long)) ∙ ap (λ (e : StoredCell). take k (cells_in c) ++ e ∷ []) there in
      record {
        versions =
            versions_more old new k is ∙ ap (λ vs. vs ++ wanted_of opened.want opened.head (d ∷ [])) sofar.versions
            ∙ sym (wanted_join opened (take k (cells_in c)) (d ∷ [])) ∙ ap (wanted_of opened.want opened.head) (sym one);
        rows = picked_more old new k (is_spot_wanted opened.want opened.head (spot_of (cell_in c k))) sofar.rows is;
      }

  -- behind the last cell all is taken that is wanted
  pub taken_all : (k : ℕ) (places : List ℕ) → AreSound opened.frame c → AreTaken k places → c.count ≤ k → versions_at opened c places ≡ wanted_of opened.want opened.head (cells_in c)
  taken_all k places sound sofar over =
      let long = cells_long c.count c.coords c.origins c.vals sound.coords sound.origins sound.vals in
      sofar.versions ∙ ap (wanted_of opened.want opened.head) (take_all k (cells_in c) (omega (arith, long)))

-- the steps of the loop over the cells
pub ruleset pick_steps = (taken_none, taken_more, taken_all, picked_all)
