-- Results of a generated script, one command later.
use Rattle.std.proofs.Common.{◌≡◌, ℕ, zero, suc, ◌+◌, ◌<◌, List, [], ◌∷◌, length, get_or, drop, false, add-one, arith, refl, sym, ap, ◌∙◌}
use Rattle.std.specs.Prelude.{slice_get}
use Rattle.std.proofs.lemmas.List.{drop_more}
use Rattle.ts_base.specs.declared.values.Val.{Val}
use Rattle.ts_model.specs.declared.answers.Driven.{Driven}
use Rattle.ts_model.specs.declared.answers.Outcome.{Outcome}
use Rattle.ts_top.specs.declared.item.Item.{Item}
use Rattle.ts_top.specs.Items.{numbered}
use Rattle.ts_top.specs.Summaries.{number_in, refusal_text, sum_of, was_refused, writes_in, written_in}

refusal_at : (items : List Item) (results : List (Driven Outcome)) (i : ℕ) (came : Driven Outcome) → length items ≡ length results → i < length results → came ≡ get_or results i came → was_refused came ≡ false
    → refusal_text (numbered (drop (suc i) items)) (drop (suc i) results) ≡ refusal_text (numbered (drop i items)) (drop i results)
refusal_at items [] i came count less is past = absurd (let none : ⊥ = omega (arith, less) in none)
refusal_at [] (r ∷ rs) i came count less is past = absurd (let none : ⊥ = omega (arith, count) in none)
refusal_at (x ∷ xs) (r ∷ rs) zero came count less is past = let was : was_refused r ≡ false = ap was_refused (sym is) ∙ past in rw was refl
refusal_at (x ∷ xs) (r ∷ rs) (suc i) came count less is past = refusal_at xs rs i came (let same : length xs ≡ length rs = omega (arith, count) in same) (let below : i < length rs = omega (arith, less) in below) is past

-- one that was not refused does not count
pub refusal_later : (items : List Item) (results : List (Driven Outcome)) (i : ℕ) (came : Driven Outcome) → length items ≡ length results → i < length results → came ≡ get_or results i came → was_refused came ≡ false
    → refusal_text (numbered (drop (i + 1) items)) (drop (i + 1) results) ≡ refusal_text (numbered (drop i items)) (drop i results)
refusal_later items results i came count less is past = rw (add-one i) (refusal_at items results i came count less is past)

-- one row more is counted
pub sum_later : (rows : List (List Val)) (i : ℕ) → i < length rows → sum_of (drop i rows) ≡ number_in (slice_get (get_or rows i []) 1) + sum_of (drop (i + 1) rows)
sum_later rows i less = ap sum_of (drop_more rows i [] less)

-- one command more is counted
pub write_later : (results : List (Driven Outcome)) (i : ℕ) (came : Driven Outcome) → i < length results → came ≡ get_or results i came → writes_in (drop i results) ≡ written_in came + writes_in (drop (i + 1) results)
write_later results i came less is = ap writes_in (drop_more results i came less) ∙ ap (λ r. written_in r + writes_in (drop (i + 1) results)) (sym is)
