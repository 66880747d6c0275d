-- What is taken of the slots of a space tile that are all of one write.
use Rattle.std.proofs.Common.{◌≡◌, ℕ, ◌<◌, Bool, true, false, ◌&&◌, cond, ℤ, List, [], ◌∷◌, ◌++◌, length, map, get_or, replicate, refl, sym, ap, subst, ◌∙◌, arith}
use Rattle.std.specs.Prelude.{filter, Result, Ok, Err, OnOk}
use Rattle.std.specs.List.{All, range_with_len}
use Rattle.std.proofs.Math.ListN.{length-replicate}
use Rattle.std.proofs.lemmas.List.{append-nil, get_or-replicate}
use Rattle.std.proofs.lemmas.List.Elements.{All-head, All-tail, All-from_get_or}
use Rattle.std.proofs.lemmas.List.FromFn.{length-range_with_len, get_or-range_with_len, fill_by_all}
use Rattle.std.proofs.lemmas.Option.{slice_get-get_or}
use Rattle.ts_base.specs.declared.heads.Version.{Version}
use Rattle.ts_base.specs.declared.values.Val.{Val}
use Rattle.ts_base.specs.declared.values.Val.TheVariants.{Null}
use Rattle.ts_domain.specs.declared.boxes.SubBox.{SubBox}
use Rattle.ts_domain.specs.Boxes.{is_in_box}
use Rattle.ts_order.specs.Orders.{coords_in_order}
use Rattle.ts_order.proofs.OrderedCoords.{is_in_box-slice_get, place_of-only}
use Rattle.ts_gather.specs.Parts.{shared_cells, IsSharedPart, place_in, version_over}
use Rattle.ts_gather.proofs.SharedLaws.{kept_none}
use Rattle.ts_dense_read.specs.declared.opened.Opened.{Opened}
use Rattle.ts_dense_read.specs.SpaceTakes.{IsCounted, AreWhole, slots_of, slots_in, slot_at, write_of, is_origin_wanted, is_slot_wanted, taken_of}
use Rattle.ts_dense_read.proofs.SlotTakes.{version_of, coords_many, taken_all}

-- the images of the places that pass are those of what stands there and passes
kept_there : {X Y : Type 0} (test : ℕ → Bool) (passes : X → Bool) (at : ℕ → X) (f : ℕ → Y) (g : X → Y) (ks : List ℕ) → All (λ k. (test k ≡ passes (at k)) × (f k ≡ g (at k))) ks → map f (filter test ks) ≡ map g (filter passes (map at ks))
kept_there test passes at f g [] all = refl
kept_there test passes at f g (k ∷ ks) all =
    let Same = λ (k : ℕ). (test k ≡ passes (at k)) × (f k ≡ g (at k)) in
    let here = All-head Same k ks all in
    ap (λ b. map f (cond b (k ∷ filter test ks) (filter test ks))) here.0 ∙ by (passes (at k)) here.1 (kept_there test passes at f g ks (All-tail Same k ks all))
  where
    by : (b : Bool) → f k ≡ g (at k) → map f (filter test ks) ≡ map g (filter passes (map at ks))
        → map f (cond b (k ∷ filter test ks) (filter test ks)) ≡ map g (cond b (at k ∷ filter passes (map at ks)) (filter passes (map at ks)))
    by true same rest = λ i. same i ∷ rest i
    by false same rest = rest

module _ (opened : Opened) (leaf : SubBox) (count origin : ℕ) (vals : List (List Val)) (counted : IsCounted leaf count) (long : All (λ (column : List Val). length column ≡ count) vals) where
  abbrev origins : List ℕ
  origins = replicate count origin

  abbrev coords : List (List ℤ)
  coords = coords_in_order (opened.frame).cell leaf

  are_whole : AreWhole (slots_of count (replicate count origin) vals)
  are_whole = record { origins = length-replicate count origin; vals = long }

  origin_at : (k : ℕ) → k < count → get_or (replicate count origin) k 0 ≡ origin
  origin_at k within = get_or-replicate count k origin 0 within

  -- what holds of each place below the number of slots holds of all
  below_all : (P : ℕ → Type 0) → ((k : ℕ) → k < count → P k) → All P (range_with_len 0 count)
  below_all P each =
      All-from_get_or P (range_with_len 0 count) 0
      (λ i within. let here : i < count = omega (arith, within, length-range_with_len 0 count) in let same : i ≡ get_or (range_with_len 0 count) i 0 = omega (arith, get_or-range_with_len 0 count i 0 here) in subst P same (each i here))

  -- of a write that is not wanted nothing is taken
  pub unwanted_taken : is_origin_wanted opened origin ≡ false → taken_of opened (slots_in opened leaf (slots_of count (replicate count origin) vals)) ≡ []
  unwanted_taken off =
      let s = slots_of count (replicate count origin) vals in
      taken_all opened leaf s counted are_whole
      ∙ ap (map (λ k. version_of opened (slot_at opened leaf s k)))
      (kept_none (is_slot_wanted opened leaf origins) (range_with_len 0 count)
      (below_all (λ k. is_slot_wanted opened leaf origins k ≡ false) (λ k within.
      ap (λ (o : ℕ). is_origin_wanted opened o && is_in_box (opened.want).sub (get_or coords k [])) (origin_at k within) ∙ ap (λ b. b && is_in_box (opened.want).sub (get_or coords k [])) off)))

  -- of another one the versions of the cells that are wanted
  pub wanted_taken : is_origin_wanted opened origin ≡ true
      → taken_of opened (slots_in opened leaf (slots_of count (replicate count origin) vals)) ≡ map (version_over (write_of opened origin) (opened.want).attrs (opened.frame).cell leaf vals) (shared_cells (opened.frame).cell leaf (opened.want).sub)
  wanted_taken on =
      let s = slots_of count (replicate count origin) vals in
      let at = λ (k : ℕ). get_or coords k [] in
      let F = λ (k : ℕ). version_of opened (slot_at opened leaf s k) in
      let G = version_over (write_of opened origin) (opened.want).attrs (opened.frame).cell leaf vals in
      let inside = is_in_box (opened.want).sub in
      let all = fill_by_all at coords count [] (coords_many opened leaf s counted are_whole) (λ k within. refl) in
      taken_all opened leaf s counted are_whole
      ∙ kept_there (is_slot_wanted opened leaf origins) inside at F G (range_with_len 0 count)
      (below_all (λ k. (is_slot_wanted opened leaf origins k ≡ inside (at k)) × (F k ≡ G (at k))) (λ k within. (test k within, version k within)))
      ∙ ap (λ cs. map G (filter inside cs)) (sym all)
    where
      test : (k : ℕ) → k < count → is_slot_wanted opened leaf (replicate count origin) k ≡ is_in_box (opened.want).sub (get_or (coords_in_order (opened.frame).cell leaf) k [])
      test k within =
          let there = is_in_box (opened.want).sub (get_or (coords_in_order (opened.frame).cell leaf) k []) in
          ap (λ (o : ℕ). is_origin_wanted opened o && there) (origin_at k within) ∙ ap (λ b. b && there) on

      version : (k : ℕ) → k < count
          → version_of opened (slot_at opened leaf (slots_of count (replicate count origin) vals) k) ≡ version_over (write_of opened origin) (opened.want).attrs (opened.frame).cell leaf vals (get_or (coords_in_order (opened.frame).cell leaf) k [])
      version k within =
          let s = slots_of count (replicate count origin) vals in
          let order = (opened.frame).cell in
          let c = get_or (coords_in_order (opened.frame).cell leaf) k [] in
          let few : k < length (coords_in_order (opened.frame).cell leaf) = omega (arith, within, coords_many opened leaf s counted are_whole) in
          let there = slice_get-get_or (coords_in_order (opened.frame).cell leaf) k [] few in
          let place : k ≡ place_in (opened.frame).cell leaf c = place_of-only order leaf c (is_in_box-slice_get order leaf counted.valid k c there) k there in
          ap (λ (o : ℕ). version_of opened (record { coords = c; origin = o; row = map (λ column. get_or column k Null) vals })) (origin_at k within)
          ∙ ap (λ (j : ℕ). version_of opened (record { coords = c; origin = origin; row = map (λ column. get_or column j Null) vals })) place

  -- where no cell is wanted nothing is taken
  pub taken_none : (before : List Version) → is_origin_wanted opened origin ≡ false → before ≡ before ++ taken_of opened (slots_in opened leaf (slots_of count (replicate count origin) vals))
  taken_none before off = sym (ap (λ vs. before ++ vs) (unwanted_taken off) ∙ append-nil before)

  pub taken_apart : (before : List Version) → is_origin_wanted opened origin ≡ true → shared_cells (opened.frame).cell leaf (opened.want).sub ≡ [] → before ≡ before ++ taken_of opened (slots_in opened leaf (slots_of count (replicate count origin) vals))
  taken_apart before on none =
      let G = version_over (write_of opened origin) (opened.want).attrs (opened.frame).cell leaf vals in
      sym (ap (λ vs. before ++ vs) (wanted_taken on ∙ ap (map G) none) ∙ append-nil before)

  -- else those of a box
  taken_box : (part : SubBox) → is_origin_wanted opened origin ≡ true → IsSharedPart part leaf (opened.want).sub
      → map (version_over (write_of opened origin) (opened.want).attrs (opened.frame).cell leaf vals) (coords_in_order (opened.frame).cell part) ≡ taken_of opened (slots_in opened leaf (slots_of count (replicate count origin) vals))
  taken_box part on is = sym (wanted_taken on ∙ ap (map (version_over (write_of opened origin) (opened.want).attrs (opened.frame).cell leaf vals)) (is.cells (opened.frame).cell))

  -- so where a box of that part is put behind what was found before
  pub taken_on : (part : SubBox) (before more table : List Version) → is_origin_wanted opened origin ≡ true → IsSharedPart part leaf (opened.want).sub
      → table ≡ map (version_over (write_of opened origin) (opened.want).attrs (opened.frame).cell leaf vals) (coords_in_order (opened.frame).cell part) → more ≡ before ++ table
      → more ≡ before ++ taken_of opened (slots_in opened leaf (slots_of count (replicate count origin) vals))
  taken_on part before more table on is made push = push ∙ ap (λ vs. before ++ vs) (made ∙ taken_box part on is)

-- what holds of a value where all went well, so holds what follows of it
pub on_ok : {T E : Type 0} (r : Result T E) (P Q : Type 0) → (P → Q) → OnOk r P → OnOk r Q
on_ok (Ok x) P Q then holds = then holds
on_ok (Err e) P Q then holds = tt
