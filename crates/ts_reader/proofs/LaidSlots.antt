-- Strips that are laid into slots stand where the newest versions do.
use Rattle.std.proofs.Common.{◌≡◌, ℕ, zero, suc, ◌+◌, ◌-◌, ◌≤◌, ℤ, Bool, true, false, cond, List, [], ◌∷◌, ◌++◌, length, map, take, drop, replicate, Option, Some, None, int_cmp, refl, sym, ap, subst, ◌∙◌, arith, Less}
use Rattle.std.specs.Prelude.{filter}
use Rattle.std.specs.Cmp.Lexicographic.{slice_cmp}
use Rattle.std.specs.FinMap as finite
use Rattle.std.specs.List.{All, AllByRecursion, flat_map, sum_by}
use Rattle.std.specs.List.Sorted.{IsPermutation, IsStrictlySortedBy}
use Rattle.std.specs.Ordering.{is_eq, ordering_reverse}
use Rattle.std.proofs.lemmas.List.{length-append, length-drop, length-take, take-append-drop, drop-drop}
use Rattle.std.proofs.lemmas.List.Elements.{All-from_recursion, All-head, All-tail, recursion_from_All}
use Rattle.std.proofs.lemmas.List.Sorted.{All-permutation, IsPermutation-sym, sum_by-IsPermutation}
use Rattle.std.proofs.lemmas.List.Sums.{sum_by-cons}
use Rattle.ts_base.specs.declared.heads.Version.{Version}
use Rattle.ts_base.specs.Coords.{coords_eq}
use Rattle.ts_base.specs.Keys.{greatest}
use Rattle.ts_batch.specs.Batches.{versions_of}
use Rattle.ts_domain.specs.declared.boxes.SubBox.{SubBox}
use Rattle.ts_domain.specs.Boxes.{IsBox, cells_of, coords_of_box}
use Rattle.ts_domain.proofs.Between.{length-coords_between}
use Rattle.ts_model.specs.Merging.{newest_at}
use Rattle.ts_model.specs.Pieces.{newest_of}
use Rattle.ts_model.proofs.Newest.{coords_itself, coords_same, coords_tie, coords_total, get_newest_of}
use Rattle.ts_strip.specs.declared.strips.Strip.{Strip}
use Rattle.ts_strip.specs.Strips.{strip_versions, Climb, IsStrip}
use Rattle.ts_reader.specs.Laid.{laid, AreLaid}
use Rattle.ts_reader.specs.Newest.{slots_in}
use Rattle.ts_reader.proofs.Ordered.{box_rises, none_behind}

-- ---- the versions in slots, and their cells

abbrev somes : List (Option Version) → List Version
somes [] = []
somes (None ∷ os) = somes os
somes (Some v ∷ os) = v ∷ somes os

somes-append : (os ps : List (Option Version)) → somes (os ++ ps) ≡ somes os ++ somes ps
somes-append [] ps = refl
somes-append (None ∷ os) ps = somes-append os ps
somes-append (Some v ∷ os) ps = ap (λ vs. v ∷ vs) (somes-append os ps)

somes-none : (n : ℕ) → somes (replicate n None) ≡ []
somes-none zero = refl
somes-none (suc n) = somes-none n

somes-some : (vs : List Version) → somes (map Some vs) ≡ vs
somes-some [] = refl
somes-some (v ∷ vs) = ap (λ ws. v ∷ ws) (somes-some vs)

-- each version stands in the slot of its cell
abbrev Stand : List (Option Version) → List (List ℤ) → Type 0
Stand [] [] = Unit {0}
Stand (None ∷ os) (c ∷ cs) = Stand os cs
Stand (Some v ∷ os) (c ∷ cs) = (v.coords ≡ c) × Stand os cs
Stand _ _ = ⊥

stand_none : (n : ℕ) (cs : List (List ℤ)) → length cs ≡ n → Stand (replicate n None) cs
stand_none zero [] many = tt
stand_none zero (c ∷ cs) many = absurd (omega (arith, many))
stand_none (suc n) [] many = absurd (omega (arith, many))
stand_none (suc n) (c ∷ cs) many = stand_none n cs (omega (arith, many))

stand_some : (vs : List Version) → Stand (map Some vs) (map (λ (v : Version). v.coords) vs)
stand_some [] = tt
stand_some (v ∷ vs) = (refl, stand_some vs)

stand_both : (os ps : List (Option Version)) (cs ds : List (List ℤ)) → Stand os cs → Stand ps ds → Stand (os ++ ps) (cs ++ ds)
stand_both [] ps [] ds first second = second
stand_both [] ps (c ∷ cs) ds first second = absurd first
stand_both (None ∷ os) ps [] ds first second = absurd first
stand_both (Some v ∷ os) ps [] ds first second = absurd first
stand_both (None ∷ os) ps (c ∷ cs) ds first second = stand_both os ps cs ds first second
stand_both (Some v ∷ os) ps (c ∷ cs) ds first second = (first.0, stand_both os ps cs ds first.1 second)

-- ---- strips

pub climb_ends : (at : ℕ) (strips : List Strip) (cells : ℕ) → Climb at strips cells → at ≤ cells
climb_ends at [] cells climb = climb
climb_ends at (s ∷ strips) cells climb = let rest = climb_ends (s.start + s.count) strips cells climb.1 in omega (arith, climb.0, rest)

module _ (batches : List (List Version)) (cells : List (List ℤ)) where
  laid_stand : (at : ℕ) (strips : List Strip) → All (IsStrip batches cells) strips → Climb at strips (length cells) → Stand (laid batches at strips (length cells)) (drop at cells)
  laid_stand at [] each climb = stand_none (length cells - at) (drop at cells) (let left = length-drop at cells in omega (arith, left))
  laid_stand at (s ∷ strips) each climb =
      let ends = climb_ends (s.start + s.count) strips (length cells) climb.1 in
      let strip = All-head (IsStrip batches cells) s strips each in
      let gap = s.start - at in
      let left = length-drop at cells in
      let cut = length-take gap (drop at cells) in
      let before : Stand (replicate gap None) (take gap (drop at cells)) = stand_none gap (take gap (drop at cells)) (omega (arith, left, cut, climb.0, ends)) in
      let own : Stand (map Some (strip_versions batches s)) (take s.count (drop s.start cells)) = subst (Stand (map Some (strip_versions batches s))) strip.alike (stand_some (strip_versions batches s)) in
      let behind = laid_stand (s.start + s.count) strips (All-tail (IsStrip batches cells) s strips each) climb.1 in
      let to_start : gap + at ≡ s.start = omega (arith, climb.0) in
      let to_end : s.count + s.start ≡ s.start + s.count = omega arith in
      let parts : take gap (drop at cells) ++ (take s.count (drop s.start cells) ++ drop (s.start + s.count) cells) ≡ drop at cells =
      ap (λ l. take gap (drop at cells) ++ (take s.count (drop s.start cells) ++ l)) (sym (drop_by s.count s.start (s.start + s.count) to_end))
      ∙ ap (λ l. take gap (drop at cells) ++ l) (take-append-drop s.count (drop s.start cells) ∙ sym (drop_by gap at s.start to_start))
      ∙ take-append-drop gap (drop at cells) in
      subst (Stand (laid batches at (s ∷ strips) (length cells))) parts (stand_both (replicate gap None) _ _ _ before (stand_both (map Some (strip_versions batches s)) _ _ _ own behind))
    where
      drop_by : (n at to : ℕ) → n + at ≡ to → drop n (drop at cells) ≡ drop to cells
      drop_by n at to is = let turned : at + n ≡ to = omega (arith, is) in drop-drop n at cells ∙ ap (λ k. drop k cells) turned

  laid_somes : (at : ℕ) (strips : List Strip) (count : ℕ) → somes (laid batches at strips count) ≡ flat_map (strip_versions batches) strips
  laid_somes at [] count = somes-none (count - at)
  laid_somes at (s ∷ strips) count =
      somes-append (replicate (s.start - at) None) (map Some (strip_versions batches s) ++ laid batches (s.start + s.count) strips count)
      ∙ ap (λ vs. vs ++ somes (map Some (strip_versions batches s) ++ laid batches (s.start + s.count) strips count)) (somes-none (s.start - at))
      ∙ somes-append (map Some (strip_versions batches s)) (laid batches (s.start + s.count) strips count)
      ∙ ap (λ vs. vs ++ somes (laid batches (s.start + s.count) strips count)) (somes-some (strip_versions batches s))
      ∙ ap (λ vs. strip_versions batches s ++ vs) (laid_somes (s.start + s.count) strips count)

-- ---- the newest version of each cell, where no cell has two

turned_less : (c d : List ℤ) → slice_cmp int_cmp c d ≡ Less → is_eq (slice_cmp int_cmp d c) ≡ false
turned_less c d less = ap is_eq (coords_total.antisymm d c ∙ ap ordering_reverse less)

itself : (c d : List ℤ) → c ≡ d → coords_eq c d ≡ true
itself c d same = ap (λ e. coords_eq e d) same ∙ coords_itself d

-- all are behind a cell
abbrev Behind : List ℤ → List Version → Type 0
Behind c vs = AllByRecursion (λ (w : Version). slice_cmp int_cmp c w.coords ≡ Less) vs

somes_behind : (c : List ℤ) (os : List (Option Version)) (cs : List (List ℤ)) → Stand os cs → AllByRecursion (λ d. slice_cmp int_cmp c d ≡ Less) cs → Behind c (somes os)
somes_behind c [] [] stand below = tt
somes_behind c [] (d ∷ cs) stand below = tt
somes_behind c (None ∷ os) [] stand below = absurd stand
somes_behind c (Some v ∷ os) [] stand below = absurd stand
somes_behind c (None ∷ os) (d ∷ cs) stand below = somes_behind c os cs stand below.1
somes_behind c (Some v ∷ os) (d ∷ cs) stand below = (ap (slice_cmp int_cmp c) stand.0 ∙ below.0, somes_behind c os cs stand.1 below.1)

-- no version of a cell is behind it
none_of : (c : List ℤ) (vs : List Version) → Behind c vs → filter (λ w. coords_eq w.coords c) vs ≡ []
none_of c vs behind = none_behind (record { key = record { t = 0; id = 0 }; schema = record { t = 0; id = 0 }; coords = c; row = [] }) c refl vs behind

-- a version before all these cells changes nothing there
skips : (v : Version) (c : List ℤ) (vs : List Version) (ds : List (List ℤ)) → v.coords ≡ c → AllByRecursion (λ d. slice_cmp int_cmp c d ≡ Less) ds → map (newest_at (v ∷ vs)) ds ≡ map (newest_at vs) ds
skips v c vs [] same below = refl
skips v c vs (d ∷ ds) same below =
    let other : coords_eq v.coords d ≡ false = sym (coords_tie d v.coords) ∙ tie d below.0 in
    let here : newest_at (v ∷ vs) d ≡ newest_at vs d = rw other refl in
    ap (λ o. o ∷ map (newest_at (v ∷ vs)) ds) here ∙ ap (λ os. newest_at vs d ∷ os) (skips v c vs ds same below.1)
  where
    tie : (d : List ℤ) → slice_cmp int_cmp c d ≡ Less → is_eq (slice_cmp int_cmp d v.coords) ≡ false
    tie d less = ap (λ e. is_eq (slice_cmp int_cmp d e)) same ∙ turned_less c d less

-- in slots of cells that ascend stand the newest versions of the cells
stand_newest : (os : List (Option Version)) (cs : List (List ℤ)) → Stand os cs → IsStrictlySortedBy (slice_cmp int_cmp) cs → map (newest_at (somes os)) cs ≡ os
unfolding IsStrictlySortedBy
stand_newest [] [] stand sorted = refl
stand_newest [] (c ∷ cs) stand sorted = absurd stand
stand_newest (None ∷ os) [] stand sorted = absurd stand
stand_newest (Some v ∷ os) [] stand sorted = absurd stand
stand_newest (None ∷ os) (c ∷ cs) stand sorted =
    let none = none_of c (somes os) (somes_behind c os cs stand sorted.0) in
    let here : newest_at (somes os) c ≡ None = rw none refl in
    ap (λ o. o ∷ map (newest_at (somes os)) cs) here ∙ ap (λ ps. None ∷ ps) (stand_newest os cs stand sorted.1)
stand_newest (Some v ∷ os) (c ∷ cs) stand sorted =
    let none = none_of c (somes os) (somes_behind c os cs stand.1 sorted.0) in
    let own : coords_eq v.coords c ≡ true = itself v.coords c stand.0 in
    let here : newest_at (v ∷ somes os) c ≡ Some v = rw (own, none) refl in
    ap (λ o. o ∷ map (newest_at (v ∷ somes os)) cs) here ∙ ap (λ ps. Some v ∷ ps) (skips v c (somes os) cs stand.0 sorted.0 ∙ stand_newest os cs stand.1 sorted.1)

-- no cell has two
few_of : (os : List (Option Version)) (cs : List (List ℤ)) (c : List ℤ) → Stand os cs → IsStrictlySortedBy (slice_cmp int_cmp) cs → length (filter (λ w. coords_eq w.coords c) (somes os)) ≤ 1
unfolding IsStrictlySortedBy
few_of [] cs c stand sorted = omega arith
few_of (None ∷ os) [] c stand sorted = absurd stand
few_of (Some v ∷ os) [] c stand sorted = absurd stand
few_of (None ∷ os) (d ∷ cs) c stand sorted = few_of os cs c stand sorted.1
few_of (Some v ∷ os) (d ∷ cs) c stand sorted = by (coords_eq v.coords c) refl (few_of os cs c stand.1 sorted.1)
  where
    by : (b : Bool) → coords_eq v.coords c ≡ b → length (filter (λ w. coords_eq w.coords c) (somes os)) ≤ 1 → length (cond b (v ∷ filter (λ w. coords_eq w.coords c) (somes os)) (filter (λ w. coords_eq w.coords c) (somes os))) ≤ 1
    by true same further =
        let at : d ≡ c = sym stand.0 ∙ coords_same v.coords c same in
        let none = none_of c (somes os) (subst (λ e. Behind e (somes os)) at (somes_behind d os cs stand.1 sorted.0)) in
        let long = ap length none in
        omega (arith, long)
    by false same further = further

-- ---- in another order

module _ (p : Version → Bool) (f : Strip → List Version) where
  filter-both : (vs ws : List Version) → filter p (vs ++ ws) ≡ filter p vs ++ filter p ws
  filter-both [] ws = refl
  filter-both (v ∷ vs) ws = by (p v) (filter-both vs ws)
    where
      by : (b : Bool) → filter p (vs ++ ws) ≡ filter p vs ++ filter p ws → cond b (v ∷ filter p (vs ++ ws)) (filter p (vs ++ ws)) ≡ cond b (v ∷ filter p vs) (filter p vs) ++ filter p ws
      by true rest = ap (λ us. v ∷ us) rest
      by false rest = rest

  many : (strips : List Strip) → length (filter p (flat_map f strips)) ≡ sum_by (λ s. length (filter p (f s))) strips
  many [] = refl
  many (s ∷ strips) = ap length (filter-both (f s) (flat_map f strips)) ∙ length-append (filter p (f s)) (filter p (flat_map f strips)) ∙ ap (λ n. length (filter p (f s)) + n) (many strips) ∙ sym (sum_by-cons (λ s. length (filter p (f s))) s strips)

  abbrev Only : Version → List Version → Type 0
  Only b vs = AllByRecursion (λ v. p v ≡ true → v ≡ b) vs

  only_both : (b : Version) (vs ws : List Version) → Only b vs → Only b ws → Only b (vs ++ ws)
  only_both b [] ws first second = second
  only_both b (v ∷ vs) ws first second = (first.0, only_both b vs ws first.1 second)

  only_parts : (b : Version) (vs ws : List Version) → Only b (vs ++ ws) → Only b vs × Only b ws
  only_parts b [] ws only = (tt, only)
  only_parts b (v ∷ vs) ws only = let rest = only_parts b vs ws only.1 in ((only.0, rest.0), rest.1)

  only_there : (b : Version) (vs : List Version) → AllByRecursion (λ v. v ≡ b) (filter p vs) → Only b vs
  only_there b [] all = tt
  only_there b (v ∷ vs) all = by (p v) refl (only_there b vs) all
    where
      by : (t : Bool) → p v ≡ t → (AllByRecursion (λ v. v ≡ b) (filter p vs) → Only b vs) → AllByRecursion (λ v. v ≡ b) (cond t (v ∷ filter p vs) (filter p vs)) → (p v ≡ true → v ≡ b) × Only b vs
      by true is rest found = ((λ _. found.0), rest found.1)
      by false is rest found = ((λ yes. absurd (no is yes)), rest found)
        where
          no : {t : Bool} → t ≡ false → t ≡ true → ⊥
          no e g = cc

  only_found : (b : Version) (vs : List Version) → Only b vs → AllByRecursion (λ v. v ≡ b) (filter p vs)
  only_found b [] only = tt
  only_found b (v ∷ vs) only = by (p v) refl (only_found b vs only.1)
    where
      by : (t : Bool) → p v ≡ t → AllByRecursion (λ v. v ≡ b) (filter p vs) → AllByRecursion (λ v. v ≡ b) (cond t (v ∷ filter p vs) (filter p vs))
      by true is rest = (only.0 is, rest)
      by false is rest = rest

  only_strips : (b : Version) (strips : List Strip) → Only b (flat_map f strips) → AllByRecursion (λ s. Only b (f s)) strips
  only_strips b [] only = tt
  only_strips b (s ∷ strips) only = let parts = only_parts b (f s) (flat_map f strips) only in (parts.0, only_strips b strips parts.1)

  only_all : (b : Version) (strips : List Strip) → AllByRecursion (λ s. Only b (f s)) strips → Only b (flat_map f strips)
  only_all b [] only = tt
  only_all b (s ∷ strips) only = only_both b (f s) (flat_map f strips) only.0 (only_all b strips only.1)

  -- what there is one of is the same one
  one_same : (xs ys : List Strip) → IsPermutation xs ys → length (filter p (flat_map f ys)) ≤ 1 → filter p (flat_map f xs) ≡ filter p (flat_map f ys)
  one_same xs ys shuffled few =
      let count = many xs ∙ sym (sum_by-IsPermutation (λ s. length (filter p (f s))) xs ys shuffled) ∙ sym (many ys) in
      by (filter p (flat_map f xs)) (filter p (flat_map f ys)) count few
      (λ b all. only_found b (flat_map f xs) (only_all b xs (recursion_from_All (λ s. Only b (f s)) xs (All-permutation (λ s. Only b (f s)) ys xs (IsPermutation-sym xs ys shuffled)
      (All-from_recursion (λ s. Only b (f s)) ys (only_strips b ys (only_there b (flat_map f ys) all)))))))
    where
      by : (vs bs : List Version) → length vs ≡ length bs → length bs ≤ 1 → ((b : Version) → AllByRecursion (λ v. v ≡ b) bs → AllByRecursion (λ v. v ≡ b) vs) → vs ≡ bs
      by [] [] same few alike = refl
      by [] (b ∷ bs) same few alike = absurd (omega (arith, same))
      by (a ∷ vs) [] same few alike = absurd (omega (arith, same))
      by (a ∷ []) (b ∷ []) same few alike = ap (λ v. v ∷ []) (alike b (refl, tt)).0
      by (a ∷ vs) (b ∷ c ∷ bs) same few alike = absurd (omega (arith, few))
      by (a ∷ d ∷ vs) (b ∷ []) same few alike = absurd (omega (arith, same))

-- ---- all together

pub laid_slots : (sub : SubBox) (batches : List (List Version)) (strips : List Strip) → IsBox sub → AreLaid sub batches strips → laid batches 0 strips (cells_of sub) ≡ slots_in sub (newest_of (versions_of batches))
laid_slots sub batches strips valid are =
    let cs = coords_of_box sub in
    let count : length cs ≡ cells_of sub = length-coords_between sub.low sub.high in
    let slots = laid batches 0 strips (length cs) in
    let sorted = box_rises sub valid in
    let stand = laid_stand batches cs 0 strips are.each (subst (Climb 0 strips) (sym count) are.climb) in
    let all = laid_somes batches cs 0 strips (length cs) in
    let same : (c : List ℤ) → newest_at (somes slots) c ≡ newest_at (versions_of batches) c =
    λ c. ap (λ vs. newest_at vs c) all
    ∙ ap (greatest (λ v. v.key)) (sym (one_same (λ w. coords_eq w.coords c) (strip_versions batches) are.turn strips are.shuffled (subst (λ vs. length (filter (λ w. coords_eq w.coords c) vs) ≤ 1) all (few_of slots cs c stand sorted))))
    ∙ ap (λ vs. newest_at vs c) are.all in
    ap (laid batches 0 strips) (sym count) ∙ sym (stand_newest slots cs stand sorted)
    ∙ mapped (newest_at (somes slots)) (λ c. finite.get (newest_of (versions_of batches)) c) cs (λ c. same c ∙ sym (get_newest_of (versions_of batches) c))
  where
    mapped : (g h : List ℤ → Option Version) (cs : List (List ℤ)) → ((c : List ℤ) → g c ≡ h c) → map g cs ≡ map h cs
    mapped g h [] same = refl
    mapped g h (c ∷ cs) same = ap (λ o. o ∷ map g cs) (same c) ∙ ap (λ os. h c ∷ os) (mapped g h cs same)
