-- Parts of columns: the values from a place on.
use Rattle.std.proofs.Common.{◌≡◌, ℕ, zero, suc, ◌+◌, ◌<◌, ◌≤◌, List, [], ◌∷◌, ◌++◌, length, map, get_or, replicate, take, drop, refl, sym, ap, subst, ◌∙◌, arith}
use Rattle.std.proofs.lemmas.List.Elements.{All-head, All-tail, All-cons}
use Rattle.std.proofs.lemmas.List.{get_or_append_left, get_or-append-add, get_or-drop, get_or-take, length-take, length-drop, length-replicate, take_more}
use Rattle.std.proofs.lemmas.Option.{get_or_from_slice_get}
use Rattle.ts_table.proofs.Columns.{val_first, vals_same, vals-length}
use Rattle.std.specs.Prelude.{ℤ, pos, All}
use Rattle.ts_base.specs.declared.values.Val.{Val}
use Rattle.ts_base.specs.declared.values.Val.TheVariants.{Int, Null}
use Rattle.ts_table.specs.declared.kinds.Kind.{Kind}
use Rattle.ts_table.specs.declared.kinds.Kind.TheVariants.{Number, Null as NoKind}
use Rattle.ts_table.specs.Columns.{val_of, vals_from}

-- the values of more kinds
vals_split : (numbers : List ℤ) (texts : List (List ℕ)) (place : ℕ) (kinds more : List Kind)
    → vals_from numbers texts place (kinds ++ more) ≡ vals_from numbers texts place kinds ++ vals_from numbers texts (place + length kinds) more
vals_split numbers texts place [] more = let here : place ≡ place + 0 = omega arith in ap (λ j. vals_from numbers texts j more) here
vals_split numbers texts place (k ∷ kinds) more =
    let next : suc place + length kinds ≡ place + suc (length kinds) = omega arith in
    ap (λ vals. val_of k (get_or numbers place (pos 0)) (get_or texts place []) ∷ vals) (vals_split numbers texts (suc place) kinds more ∙ ap (λ j. vals_from numbers texts (suc place) kinds ++ vals_from numbers texts j more) next)

-- behind other integers
vals_behind : (ns ms : List ℤ) (place : ℕ) (kinds : List Kind) → vals_from (ns ++ ms) [] (length ns + place) kinds ≡ vals_from ms [] place kinds
vals_behind ns ms place [] = refl
vals_behind ns ms place (k ∷ kinds) =
    let here : get_or (ns ++ ms) (length ns + place) (pos 0) ≡ get_or ms place (pos 0) = get_or-append-add ns ms place (pos 0) in
    let next : length ns + suc place ≡ suc (length ns + place) = omega arith in
    let rest : vals_from (ns ++ ms) [] (suc (length ns + place)) kinds ≡ vals_from ms [] (suc place) kinds = sym (ap (λ j. vals_from (ns ++ ms) [] j kinds) next) ∙ vals_behind ns ms (suc place) kinds in
    cc

-- before other integers
vals_before : (ns ms : List ℤ) (kinds : List Kind) → length kinds ≤ length ns → vals_from (ns ++ ms) [] 0 kinds ≡ vals_from ns [] 0 kinds
vals_before ns ms kinds few = vals_same ns (ns ++ ms) [] [] 0 kinds (λ i h. get_or_append_left ns ms (pos 0) i (omega (arith, h, few))) (λ i h. refl)

-- from a place on
vals_dropped : (ns : List ℤ) (from place : ℕ) (kinds : List Kind) → vals_from ns [] (from + place) kinds ≡ vals_from (drop from ns) [] place kinds
vals_dropped ns from place [] = refl
vals_dropped ns from place (k ∷ kinds) =
    let here : get_or (drop from ns) place (pos 0) ≡ get_or ns (from + place) (pos 0) = get_or-drop from ns place (pos 0) in
    let next : from + suc place ≡ suc (from + place) = omega arith in
    let rest : vals_from ns [] (suc (from + place)) kinds ≡ vals_from (drop from ns) [] (suc place) kinds = sym (ap (λ j. vals_from ns [] j kinds) next) ∙ vals_dropped ns from (suc place) kinds in
    cc

drop_vals : (ns : List ℤ) (from place : ℕ) (kinds : List Kind) → drop from (vals_from ns [] place kinds) ≡ vals_from ns [] (from + place) (drop from kinds)
drop_vals ns zero place kinds = let here : place ≡ 0 + place = omega arith in ap (λ j. vals_from ns [] j kinds) here
drop_vals ns (suc from) place [] = refl
drop_vals ns (suc from) place (k ∷ kinds) =
    let next : from + suc place ≡ suc from + place = omega arith in
    drop_vals ns from (suc place) kinds ∙ ap (λ j. vals_from ns [] j (drop from kinds)) next

take_vals : (ns : List ℤ) (count place : ℕ) (kinds : List Kind) → take count (vals_from ns [] place kinds) ≡ vals_from ns [] place (take count kinds)
take_vals ns zero place kinds = refl
take_vals ns (suc count) place [] = refl
take_vals ns (suc count) place (k ∷ kinds) = ap (λ vals. val_of k (get_or ns place (pos 0)) [] ∷ vals) (take_vals ns count (suc place) kinds)

-- so many from a place on
vals_part : (ns : List ℤ) (kinds : List Kind) (from count : ℕ) → vals_from (take count (drop from ns)) [] 0 (take count (drop from kinds)) ≡ take count (drop from (vals_from ns [] 0 kinds))
vals_part ns kinds from count =
    let start : from + 0 ≡ from = omega arith in
    let few = length-take count (drop from kinds) in
    vals_same (drop from ns) (take count (drop from ns)) [] [] 0 (take count (drop from kinds)) (λ i h. get_or-take count (drop from ns) i (pos 0) (omega (arith, h, few))) (λ i h. refl)
    ∙ sym (vals_dropped ns from 0 (take count (drop from kinds)))
    ∙ sym (ap (take count) (drop_vals ns from 0 kinds) ∙ take_vals ns count (from + 0) (drop from kinds))

-- so many values of other columns behind these
pub part_more : (ns ms more : List ℤ) (texts texts' : List (List ℕ)) (kinds others all : List Kind) (from count : ℕ)
    → texts ≡ [] → texts' ≡ [] → length ns ≡ length kinds
    → more ≡ ns ++ take count (drop from ms) → all ≡ kinds ++ take count (drop from others)
    → vals_from more texts 0 all ≡ vals_from ns texts 0 kinds ++ take count (drop from (vals_from ms texts' 0 others))
part_more ns ms more texts texts' kinds others all from count none none' many is is' =
    let part = take count (drop from ms) in
    let front : vals_from (ns ++ part) [] 0 kinds ≡ vals_from ns [] 0 kinds = vals_before ns part kinds (omega (arith, many)) in
    let place : 0 + length kinds ≡ length ns + 0 = omega (arith, many) in
    let back : vals_from (ns ++ part) [] (0 + length kinds) (take count (drop from others)) ≡ take count (drop from (vals_from ms [] 0 others)) =
    ap (λ j. vals_from (ns ++ part) [] j (take count (drop from others))) place ∙ vals_behind ns part 0 (take count (drop from others)) ∙ vals_part ms others from count in
    let whole : vals_from (ns ++ part) [] 0 (kinds ++ take count (drop from others)) ≡ vals_from ns [] 0 kinds ++ take count (drop from (vals_from ms [] 0 others)) =
    vals_split (ns ++ part) [] 0 kinds (take count (drop from others)) ∙ ap (λ vals. vals ++ vals_from (ns ++ part) [] (0 + length kinds) (take count (drop from others))) front ∙ ap (λ vals. vals_from ns [] 0 kinds ++ vals) back in
    subst (λ t. vals_from more t 0 all ≡ vals_from ns t 0 kinds ++ take count (drop from (vals_from ms texts' 0 others))) (sym none)
    (subst (λ t. vals_from more [] 0 all ≡ vals_from ns [] 0 kinds ++ take count (drop from (vals_from ms t 0 others))) (sym none')
    (ap (λ it. vals_from it [] 0 all) is ∙ ap (λ it. vals_from (ns ++ part) [] 0 it) is' ∙ whole))

pub ruleset appended = (part_more, vals-length)

-- integers alone
ints_from : (ns : List ℤ) (kinds : List Kind) → length ns ≡ length kinds → All (λ k. k ≡ Number) kinds → map Int ns ≡ vals_from ns [] 0 kinds
ints_from [] [] many all = refl
ints_from [] (k ∷ kinds) many all = absurd (omega (arith, many))
ints_from (n ∷ ns) [] many all = absurd (omega (arith, many))
ints_from (n ∷ ns) (k ∷ kinds) many all =
    let here : k ≡ Number = All-head (λ k. k ≡ Number) k kinds all in
    let rest : map Int ns ≡ vals_from ns [] 0 kinds = ints_from ns kinds (omega (arith, many)) (All-tail (λ k. k ≡ Number) k kinds all) in
    let shift : vals_from (n ∷ ns) [] 1 kinds ≡ vals_from ns [] 0 kinds = vals_behind (n ∷ []) ns 0 kinds in
    rw here (ap (λ vals. Int n ∷ vals) (rest ∙ sym shift))

pub all_integers : (ns : List ℤ) (texts : List (List ℕ)) (kinds : List Kind) → texts ≡ [] → length ns ≡ length kinds → All (λ k. k ≡ Number) kinds → map Int ns ≡ vals_from ns texts 0 kinds
all_integers ns texts kinds none many all = subst (λ t. map Int ns ≡ vals_from ns t 0 kinds) (sym none) (ints_from ns kinds many all)

-- kinds that are all of integers
all_number : (count : ℕ) → All (λ k. k ≡ Number) (replicate count Number)
all_number zero = λ k d h. absurd (omega (arith, h))
all_number (suc count) = All-cons (λ k. k ≡ Number) Number (replicate count Number) refl (all_number count)

pub integers_are : (ns : List ℤ) → vals_from ns [] 0 (replicate (length ns) Number) ≡ map Int ns
integers_are ns = sym (ints_from ns (replicate (length ns) Number) (sym (length-replicate (length ns) Number)) (all_number (length ns)))

pub ruleset integers = (all_integers, integers_are)

-- the values at some places
vals_at : (ns : List ℤ) (kinds : List Kind) (places : List ℕ) (from : ℕ) (ms : List ℤ) → All (λ place. place < length kinds) places
    → ((i : ℕ) → get_or ms (from + i) (pos 0) ≡ get_or (map (λ place. get_or ns place (pos 0)) places) i (pos 0))
    → vals_from ms [] from (map (λ place. get_or kinds place NoKind) places) ≡ map (λ place. get_or (vals_from ns [] 0 kinds) place Null) places
vals_at ns kinds [] from ms all same = refl
vals_at ns kinds (p ∷ places) from ms all same =
    let within : p < length kinds = All-head (λ place. place < length kinds) p places all in
    let start : from + 0 ≡ from = omega arith in
    let here : get_or ms from (pos 0) ≡ get_or ns p (pos 0) = ap (λ j. get_or ms j (pos 0)) (sym start) ∙ same 0 in
    let got : get_or (vals_from ns [] 0 kinds) p Null ≡ val_of (get_or kinds p NoKind) (get_or ns p (pos 0)) [] = get_or_from_slice_get (vals_from ns [] 0 kinds) p _ Null (val_first ns [] kinds p NoKind within) in
    let rest : vals_from ms [] (suc from) (map (λ place. get_or kinds place NoKind) places) ≡ map (λ place. get_or (vals_from ns [] 0 kinds) place Null) places =
    vals_at ns kinds places (suc from) ms (All-tail (λ place. place < length kinds) p places all) (λ i. let next : suc from + i ≡ from + suc i = omega arith in ap (λ j. get_or ms j (pos 0)) next ∙ same (suc i)) in
    cc

pub gathered_vals : (ns : List ℤ) (texts : List (List ℕ)) (kinds : List Kind) (places : List ℕ) → texts ≡ [] → All (λ place. place < length (vals_from ns texts 0 kinds)) places
    → vals_from (map (λ place. get_or ns place (pos 0)) places) [] 0 (map (λ place. get_or kinds place NoKind) places) ≡ map (λ place. get_or (vals_from ns texts 0 kinds) place Null) places
gathered_vals ns texts kinds places none all =
    let long = vals-length ns texts 0 kinds in
    subst (λ t. vals_from (map (λ place. get_or ns place (pos 0)) places) [] 0 (map (λ place. get_or kinds place NoKind) places) ≡ map (λ place. get_or (vals_from ns t 0 kinds) place Null) places) (sym none)
    (vals_at ns kinds places 0 (map (λ place. get_or ns place (pos 0)) places) (λ k d h. let below = all k d h in omega (arith, below, long)) (λ i. let start : 0 + i ≡ i = omega arith in ap (λ j. get_or (map (λ place. get_or ns place (pos 0)) places) j (pos 0)) start))

pub ruleset gathers = (gathered_vals, vals-length)

-- one value more of a part
pub part_step : (vals : List Val) (from step count : ℕ) → from + count ≤ length vals → step < count → take (step + 1) (drop from vals) ≡ take step (drop from vals) ++ get_or vals (from + step) Null ∷ []
part_step vals from step count many within =
    let long = length-drop from vals in
    take_more (drop from vals) step Null (omega (arith, many, within, long)) ∙ ap (λ v. take step (drop from vals) ++ v ∷ []) (get_or-drop from vals step Null)

pub ruleset steps = (part_step)
