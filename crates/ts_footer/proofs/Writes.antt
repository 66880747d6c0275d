-- What is said of objects, taken apart into lengths and starts, and written one number after the other.
use Rattle.std.proofs.Common.{◌≡◌, ℕ, suc, ◌+◌, ◌<◌, List, [], ◌∷◌, ◌++◌, length, map, get_or, drop, Some, refl, sym, ap, ◌∙◌, subst, arith, append_assoc}
use Rattle.std.specs.Prelude.{slice_get}
use Rattle.std.specs.List.{flat_map}
use Rattle.std.proofs.lemmas.List.{drop_more, length-drop}
use Rattle.std.proofs.lemmas.List.Concat.{flat_map-append}
use Rattle.std.proofs.lemmas.Option.{slice_get_within, get_or_from_slice_get}
use Rattle.ts_domain.specs.Rects.{rect_bytes}
use Rattle.ts_wire.specs.Numbers.{number_bytes}
use Rattle.ts_rtree.specs.Trees.{nodes_of}
use Rattle.ts_rtree.proofs.Levels.{upper_of_one}
use Rattle.ts_footer.specs.declared.columns.ColumnForm.{ColumnForm}
use Rattle.ts_footer.specs.declared.columns.ColumnForm.TheVariants.{Fixed, Var}
use Rattle.ts_footer.specs.declared.columns.ColumnSize.{ColumnSize}
use Rattle.ts_footer.specs.Columns.{sizes_of}
use Rattle.ts_footer.specs.Metas.{some_before, starts_of, HasEach, sizes_for}

-- ---- taken apart

-- one length more
pub lengths_more : (sizes : List ColumnSize) (size : ColumnSize) (old new : List ℕ) → old ≡ map (λ s. s.length) sizes → new ≡ old ++ size.length ∷ [] → new ≡ map (λ s. s.length) (sizes ++ size ∷ [])
lengths_more sizes size old new was pushed = pushed ∙ ap (λ ls. ls ++ size.length ∷ []) was ∙ more sizes
  where
    more : (ss : List ColumnSize) → map (λ s. s.length) ss ++ size.length ∷ [] ≡ map (λ s. s.length) (ss ++ size ∷ [])
    more [] = refl
    more (s ∷ ss) = ap (λ ls. s.length ∷ ls) (more ss)

starts_more : (sizes : List ColumnSize) (size : ColumnSize) → starts_of (sizes ++ size ∷ []) ≡ starts_of sizes ++ some_before size.starts []
starts_more [] size = refl
starts_more (s ∷ sizes) size = before s.starts (starts_of (sizes ++ size ∷ [])) (starts_of sizes) (some_before size.starts []) (starts_more sizes size)
  where
    before : (starts : List ℕ) (all front last : List (List ℕ)) → all ≡ front ++ last → some_before starts all ≡ some_before starts front ++ last
    before [] all front last e = e
    before (x ∷ xs) all front last e = ap (λ others. (x ∷ xs) ∷ others) e

-- starts that are some, and that are none
pub alone_none : (starts : List ℕ) → starts ≡ [] → some_before starts [] ≡ []
alone_none starts none = ap (λ s. some_before s []) none

pub alone_some : (starts : List ℕ) → (starts ≡ [] → ⊥) → some_before starts [] ≡ starts ∷ []
alone_some [] some = absurd (some refl)
alone_some (x ∷ xs) some = refl

-- one object more
pub ends_more : (sizes : List ColumnSize) (size : ColumnSize) (old new : List (List ℕ)) → old ≡ starts_of sizes → new ≡ old ++ some_before size.starts [] → new ≡ starts_of (sizes ++ size ∷ [])
ends_more sizes size old new was pushed = pushed ∙ ap (λ ss. ss ++ some_before size.starts []) was ∙ sym (starts_more sizes size)

-- ---- written

-- the numbers that stand for the objects of these forms
abbrev pub numbers_text : List ColumnForm → List ℕ → List (List ℕ) → List ℕ
numbers_text forms lengths starts = flat_map (number_bytes 8) (sizes_of (sizes_for forms lengths starts))

-- what is written so far, and what is still to be written, is all
pub record Written (forms : List ColumnForm) (lengths : List ℕ) (starts : List (List ℕ)) (place next : ℕ) (so_far all : List ℕ) : Type 0 where
  pub each : HasEach (drop place forms) (drop place lengths) (drop next starts)
  pub text : so_far ++ numbers_text (drop place forms) (drop place lengths) (drop next starts) ≡ all

drop_at_item : {X : Type 0} (xs : List X) (i : ℕ) (x : X) → slice_get xs i ≡ Some x → drop i xs ≡ x ∷ drop (i + 1) xs
drop_at_item xs i x is = drop_more xs i x (slice_get_within xs i x is) ∙ ap (λ y. y ∷ drop (i + 1) xs) (get_or_from_slice_get xs i x x is)

each_length : (forms : List ColumnForm) (lengths : List ℕ) (starts : List (List ℕ)) → HasEach forms lengths starts → length lengths ≡ length forms
each_length [] [] [] each = refl
each_length [] [] (s ∷ starts) each = absurd each
each_length [] (n ∷ lengths) starts each = absurd each
each_length (Fixed width ∷ forms) [] starts each = absurd each
each_length (Fixed width ∷ forms) (n ∷ lengths) starts each = ap suc (each_length forms lengths starts each)
each_length (Var ∷ forms) [] starts each = absurd each
each_length (Var ∷ forms) (n ∷ lengths) [] each = absurd each
each_length (Var ∷ forms) (n ∷ lengths) (s ∷ starts) each = ap suc (each_length forms lengths starts each)

-- there is a length at each place
pub length_there : (forms : List ColumnForm) (lengths : List ℕ) (starts : List (List ℕ)) (place next : ℕ) (so_far all : List ℕ) → Written forms lengths starts place next so_far all
    → place < length forms → place < length lengths
length_there forms lengths starts place next so_far all left more =
    omega (arith, each_length (drop place forms) (drop place lengths) (drop next starts) left.each, length-drop place forms, length-drop place lengths)

-- an object with so many bytes for each cell
pub fixed_on : (forms : List ColumnForm) (lengths : List ℕ) (starts : List (List ℕ)) (place next : ℕ) (so_far all new : List ℕ) (d : ColumnForm) (width n : ℕ)
    → Written forms lengths starts place next so_far all → place < length forms → get_or forms place d ≡ Fixed width → slice_get lengths place ≡ Some n
    → new ≡ so_far ++ number_bytes 8 n → Written forms lengths starts (place + 1) next new all
fixed_on forms lengths starts place next so_far all new d width n left more is has pushed =
    let item : drop place forms ≡ Fixed width ∷ drop (place + 1) forms = drop_more forms place d more ∙ ap (λ f. f ∷ drop (place + 1) forms) is in
    let number = drop_at_item lengths place n has in
    let fs = drop (place + 1) forms in
    let ls = drop (place + 1) lengths in
    let ss = drop next starts in
    record {
      each = subst (λ xs. HasEach (Fixed width ∷ fs) xs ss) number (subst (λ xs. HasEach xs (drop place lengths) ss) item left.each);
      text = ap (λ text. text ++ numbers_text fs ls ss) pushed ∙ append_assoc so_far (number_bytes 8 n) (numbers_text fs ls ss)
          ∙ sym (ap (λ xs. so_far ++ numbers_text xs (drop place lengths) ss) item ∙ ap (λ xs. so_far ++ numbers_text (Fixed width ∷ fs) xs ss) number) ∙ left.text;
    }

-- an object of texts or blobs
pub var_on : (forms : List ColumnForm) (lengths : List ℕ) (starts : List (List ℕ)) (place next : ℕ) (so_far all new newer : List ℕ) (d : ColumnForm) (n : ℕ) (s : List ℕ)
    → Written forms lengths starts place next so_far all → place < length forms → get_or forms place d ≡ Var → slice_get lengths place ≡ Some n → slice_get starts next ≡ Some s
    → new ≡ so_far ++ number_bytes 8 n → newer ≡ new ++ flat_map (number_bytes 8) s → Written forms lengths starts (place + 1) (next + 1) newer all
var_on forms lengths starts place next so_far all new newer d n s left more is has have pushed wrote =
    let item : drop place forms ≡ Var ∷ drop (place + 1) forms = drop_more forms place d more ∙ ap (λ f. f ∷ drop (place + 1) forms) is in
    let number = drop_at_item lengths place n has in
    let first = drop_at_item starts next s have in
    let fs = drop (place + 1) forms in
    let ls = drop (place + 1) lengths in
    let ss = drop (next + 1) starts in
    let rest = numbers_text fs ls ss in
    let words = flat_map (number_bytes 8) s in
    let joint : numbers_text (Var ∷ fs) (n ∷ ls) (s ∷ ss) ≡ number_bytes 8 n ++ (words ++ rest) = ap (λ text. number_bytes 8 n ++ text) (flat_map-append (number_bytes 8) s (sizes_of (sizes_for fs ls ss))) in
    record {
      each = subst (λ xs. HasEach (Var ∷ fs) (n ∷ ls) xs) first (subst (λ xs. HasEach (Var ∷ fs) xs (drop next starts)) number (subst (λ xs. HasEach xs (drop place lengths) (drop next starts)) item left.each));
      text = ap (λ text. text ++ rest) (wrote ∙ ap (λ text. text ++ words) pushed ∙ append_assoc so_far (number_bytes 8 n) words)
          ∙ append_assoc so_far (number_bytes 8 n ++ words) rest
          ∙ ap (λ text. so_far ++ text) (append_assoc (number_bytes 8 n) words rest ∙ sym joint)
          ∙ sym (ap (λ xs. so_far ++ numbers_text xs (drop place lengths) (drop next starts)) item
          ∙ ap (λ xs. so_far ++ numbers_text (Var ∷ fs) xs (drop next starts)) number
          ∙ ap (λ xs. so_far ++ numbers_text (Var ∷ fs) (n ∷ ls) xs) first)
          ∙ left.text;
    }

-- where there is no tree there are no boxes
pub no_boxes : flat_map rect_bytes (nodes_of []) ≡ []
no_boxes = ap (flat_map rect_bytes) (upper_of_one [] (omega arith))

pub ruleset taken_apart = (lengths_more, ends_more)

pub ruleset some_alone = (alone_none, alone_some)
